-- What contracts see of the two ends of a queue.
use Rattle.std.specs.Prelude.{◌≡◌, ℕ, ℤ, List, ◌++◌, length}
use Rattle.std.specs.Arc.{arc_value}
use Rattle.crossbeam_queue.specs.Passes.{view, ruled_capacity}
use Rattle.ruled_fifo.specs.declared.ends.SendEnd.{SendEnd}
use Rattle.ruled_fifo.specs.declared.ends.TakeEnd.{TakeEnd}

-- the values that were sent, the oldest first
abbrev pub sent : SendEnd → List ℤ
sent end = (view end.pass).sent

-- the values that were taken, the oldest first
abbrev pub taken : TakeEnd → List ℤ
taken end = (view end.pass).taken

-- how many tries of this end found the queue full
abbrev pub send_misses : SendEnd → ℕ
send_misses end = (view end.pass).misses

-- how many tries of this end found the queue empty
abbrev pub take_misses : TakeEnd → ℕ
take_misses end = (view end.pass).misses

-- how many values the queue of this end can hold
abbrev pub send_capacity : SendEnd → ℕ
send_capacity end = ruled_capacity (arc_value end.line)

-- the same of the other end
abbrev pub take_capacity : TakeEnd → ℕ
take_capacity end = ruled_capacity (arc_value end.line)

-- the two ends are of one queue
abbrev pub AreOfOneQueue : SendEnd → TakeEnd → Type 0
AreOfOneQueue send take = take.pass.table_id ≡ send.pass.table_id

-- the end is of the same queue as before
abbrev pub SendsToSame : SendEnd → SendEnd → Type 0
SendsToSame old new = (new.pass.table_id ≡ old.pass.table_id) × (send_capacity new ≡ send_capacity old)

-- the same of the other end
abbrev pub TakesFromSame : TakeEnd → TakeEnd → Type 0
TakesFromSame old new = (new.pass.table_id ≡ old.pass.table_id) × (take_capacity new ≡ take_capacity old)

-- the values are some, and then n more
abbrev pub EndsWithMany : ℕ → List ℤ → Type 0
EndsWithMany n values = (before held : List ℤ) × (values ≡ before ++ held) × (length held ≡ n)
