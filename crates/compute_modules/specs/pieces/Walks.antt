-- A cell of a box that moves on, and its point.
use Rattle.std.specs.Prelude.{◌≡◌, ℕ, suc, ◌+◌, ◌-◌, ◌/◌, ◌%◌, ◌<◌, ◌^◌, ◌&&◌, min, Bool, List, [], ◌∷◌, map, nat_le, nat_lt, if◌then◌else◌, ℤ, pos, negsuc, ◌-ℤ◌}
use Rattle.std.specs.List.{list_all}
use Rattle.soda_ir.specs.Points.{size}
use Rattle.compute_modules.specs.declared.side.Side.{Side}
use Rattle.compute_modules.specs.declared.side.Spot.{Spot}
use Rattle.compute_modules.specs.declared.side.Spot.TheVariants.{Inside, Nowhere, Outside}

-- the dimensions of a box with these margins, at its first point
abbrev pub sides_of : (extents low high : List ℕ) → List Side
sides_of [] ls hs = []
sides_of (n ∷ ns) [] hs = []
sides_of (n ∷ ns) (l ∷ ls) [] = []
sides_of (n ∷ ns) (l ∷ ls) (h ∷ hs) = record { extent = n; low = l; end = n - h; at = 0 } ∷ sides_of ns ls hs

-- a dimension at another coordinate
abbrev pub side_at : Side → ℕ → Side
side_at s i = record { extent = s.extent; low = s.low; end = s.end; at = i }

-- the dimensions at the point of cell i
abbrev pub placed : List Side → ℕ → List Side
placed [] i = []
placed (s ∷ ss) i = side_at s (i % s.extent) ∷ placed ss (i / s.extent)

-- the dimensions at the first point
abbrev pub box : List Side → List Side
box ss = map (λ s. side_at s 0) ss

-- how many cells there are
abbrev pub cells_of : List Side → ℕ
cells_of ss = size (map (λ s. s.extent) ss)

-- the coordinate of a dimension keeps its margins
abbrev pub keeps_side : Side → Bool
keeps_side s = nat_le s.low s.at && nat_lt s.at s.end

-- a dimension so many numbers on; no count passes the greatest number of 64 bits
abbrev pub moved_side : Side → ℕ → Side
moved_side s k = side_at s (min (s.at + k) (2 ^ 64 - 1) % s.extent)

-- the dimensions at the point that stands so many cells behind
abbrev pub moved_sides : List Side → ℕ → List Side
moved_sides [] k = []
moved_sides (s ∷ ss) k = moved_side s k ∷ moved_sides ss (min (s.at + k) (2 ^ 64 - 1) / s.extent)

-- the dimensions stand at the point of cell i, if there is such a cell
abbrev pub StandAt : List Side → ℕ → Type 0
StandAt ss i = i < cells_of ss → ss ≡ placed ss i

-- how far before the first cell a number stands
abbrev pub before : ℤ → ℕ
before (pos i) = 0
before (negsuc i) = suc i

-- the number that stands so many behind the first cell, or so many before it
abbrev pub number_at : (behind before : ℕ) → ℤ
number_at i j = pos i -ℤ pos j

-- where the cell of a number stands
abbrev pub spot_in : List Side → ℤ → Spot
spot_in ss (pos i) =
    if nat_lt i (cells_of ss) then (if list_all keeps_side (placed ss i) then Inside else Outside) else Nowhere
spot_in ss (negsuc i) = Nowhere
