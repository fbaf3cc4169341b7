-- What a firing does to the queues at its module.
use Rattle.std.specs.Prelude.{◌≡◌, ◌≢◌, ◌<◌, ◌≤◌, nat_le, ℕ, ℤ, pos, List, length, slice_index, slice_index_or, if◌then◌else◌}
use Rattle.net_ir.specs.Nets.{Net, queue_at, entrances, exits}
use Rattle.ring_region.specs.Fifos.{Fifo, fifo_at, with_item, without_oldest}

-- the queue at a module's entrance of a number
abbrev pub entrance : Net → ℕ → ℕ → ℕ
entrance net m j = slice_index (entrances net m) j

-- the queue at a module's exit of a number
abbrev pub exit : Net → ℕ → ℕ → ℕ
exit net m j = slice_index (exits net m) j

-- the lead of the queue at an entrance
abbrev pub lead_at : Net → ℕ → ℕ → ℕ
lead_at net m j = (queue_at net.queues (entrance net m j)).lead

-- at the first n entrances each queue that firing k takes from holds something
abbrev pub FilledTo : Net → List Fifo → ℕ → ℕ → ℕ → Type 0
FilledTo net fifos m k n =
    (j : ℕ) → j < n → lead_at net m j ≤ k → 0 < length (fifo_at fifos (entrance net m j)).items

-- at the first n exits each queue has room
abbrev pub RoomyTo : Net → List Fifo → ℕ → ℕ → Type 0
RoomyTo net fifos m n =
    (j : ℕ) → j < n
    → length (fifo_at fifos (exit net m j)).items < (fifo_at fifos (exit net m j)).capacity

-- a queue of this lead after firing k has taken
abbrev pub after_take : ℕ → ℕ → Fifo → Fifo
after_take lead k fifo = if nat_le lead k then without_oldest fifo else fifo

-- what firing k finds at the port of a queue of this lead
abbrev pub port_value : ℕ → ℕ → Fifo → ℤ
port_value lead k fifo = if nat_le lead k then slice_index_or fifo.items 0 (pos 0) else pos 0

-- firing k has taken at the first n entrances, and nothing else changed
pub record TakenTo (net : Net) (old new : List Fifo) (ports : List ℤ) (m k n : ℕ) : Type 0 where
  pub count : length new ≡ length old
  pub taken : (j : ℕ) → j < n
      → fifo_at new (entrance net m j) ≡ after_take (lead_at net m j) k (fifo_at old (entrance net m j))
  pub values : (j : ℕ) → j < n
      → slice_index_or ports j (pos 0) ≡ port_value (lead_at net m j) k (fifo_at old (entrance net m j))
  pub others : (queue : ℕ) → ((j : ℕ) → j < n → entrance net m j ≢ queue)
      → fifo_at new queue ≡ fifo_at old queue

-- these values have been sent at the first n exits, and nothing else changed
pub record SentTo (net : Net) (old new : List Fifo) (values : List ℤ) (m n : ℕ) : Type 0 where
  pub count : length new ≡ length old
  pub sent : (j : ℕ) → j < n
      → fifo_at new (exit net m j) ≡ with_item (slice_index_or values j (pos 0)) (fifo_at old (exit net m j))
  pub others : (queue : ℕ) → ((j : ℕ) → j < n → exit net m j ≢ queue) → fifo_at new queue ≡ fifo_at old queue
