-- Rings in parts of a region, as the code keeps them.
use Rattle.std.specs.Prelude.{◌≡◌, ◌<◌, ◌≤◌, ◌+◌, ◌-◌, ◌==◌, nat_lt, ℕ, zero, suc, ℤ, pos, List, [], ◌∷◌, length, map, sum, take, slice_index_or, if◌then◌else◌}
use Rattle.ring_region.specs.declared.part.Part.{Part}
use Rattle.ring_region.specs.Fifos.{Fifo}

-- the place after a place, round the places from begin to end
abbrev pub next_place : ℕ → ℕ → ℕ → ℕ
next_place begin end place = if (place + 1) == end then begin else place + 1

-- the place so many steps after a place, at most once round
abbrev pub place_on : ℕ → ℕ → ℕ → ℕ → ℕ
place_on begin end place steps =
    if nat_lt (place + steps) end then place + steps else (place + steps) - (end - begin)

-- the part of a number
abbrev pub part_at : List Part → ℕ → Part
part_at parts queue = slice_index_or parts queue (record { begin = 0; end = 0; put = 0; take = 0; held = 0 })

-- so many items from a place on, round the part
unfoldable pub items_from : List ℤ → ℕ → ℕ → ℕ → ℕ → List ℤ
items_from region begin end place zero = []
items_from region begin end place (suc held) =
    slice_index_or region place (pos 0) ∷ items_from region begin end (next_place begin end place) held

-- the number of places of a part
abbrev pub size_of : Part → ℕ
size_of part = part.end - part.begin

-- the queue that a part of a region holds
abbrev pub fifo_of : List ℤ → Part → Fifo
fifo_of region part = record {
  capacity = size_of part;
  first = part.take - part.begin;
  items = items_from region part.begin part.end part.take part.held;
}

-- a part within a region of this size
pub record IsPart (size : ℕ) (part : Part) : Type 0 where
  pub above : part.begin ≤ part.take
  pub below : part.take < part.end
  pub inside : part.end ≤ size
  pub few : part.held ≤ part.end - part.begin
  pub behind : part.put ≡ place_on part.begin part.end part.take part.held

-- parts in order that fill a region of this size without gaps
pub record AreParts (size : ℕ) (parts : List Part) : Type 0 where
  pub each : (queue : ℕ) → queue < length parts → IsPart size (part_at parts queue)
  pub apart : (one other : ℕ) → one < other → other < length parts
      → (part_at parts one).end ≤ (part_at parts other).begin
  pub begins : (queue : ℕ) → queue < length parts
      → (part_at parts queue).begin ≡ sum (take queue (map size_of parts))
  pub fills : size ≡ sum (map size_of parts)
