-- Bounded queues, and the places of their items in a region.
use Rattle.std.specs.Prelude.{◌+◌, ◌%◌, ◌++◌, ◌∷◌, [], ℕ, ℤ, List, drop, map, sum, take, slice_index_or}

-- a queue: how many items it can hold, the place of its oldest item in its part of the region (of the next one that
-- is put, where it holds none), and its items, oldest first
pub record Fifo : Type 0 where
  pub capacity : ℕ
  pub first : ℕ
  pub items : List ℤ

-- the queue of this capacity that holds nothing
abbrev pub emptied : ℕ → Fifo
emptied capacity = record { capacity = capacity; first = 0; items = [] }

-- the queue of a number
abbrev pub fifo_at : List Fifo → ℕ → Fifo
fifo_at fifos queue = slice_index_or fifos queue (emptied 0)

-- a queue with one item more
abbrev pub with_item : ℤ → Fifo → Fifo
with_item value fifo = record fifo { items = fifo.items ++ value ∷ [] }

-- a queue without its oldest item: the oldest is then the next, round the part
abbrev pub without_oldest : Fifo → Fifo
without_oldest fifo = record fifo { first = (fifo.first + 1) % fifo.capacity; items = drop 1 fifo.items }

-- the first place of a queue's part: the parts stand in queue order without gaps
abbrev pub begin_of : List Fifo → ℕ → ℕ
begin_of fifos queue = sum (take queue (map (λ fifo. fifo.capacity) fifos))

-- the place of item i of a queue, counted from its oldest
abbrev pub place_of : List Fifo → ℕ → ℕ → ℕ
place_of fifos queue i =
    begin_of fifos queue + ((fifo_at fifos queue).first + i) % (fifo_at fifos queue).capacity
