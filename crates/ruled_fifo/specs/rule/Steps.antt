-- What a pass of the queue knows before and after each of the eight kinds of step.
use Rattle.std.specs.Prelude.{◌≡◌, ℕ, ◌+◌, ℤ, Bool, true, false, List, [], ◌∷◌, ◌++◌, length, ◌≤◌}
use Rattle.ruled_fifo.specs.declared.rule.View.{View}

-- whether it may send and may take, what was sent, what was taken, what was taken out since the joining, and its misses
abbrev pub knows : Bool → Bool → List ℤ → List ℤ → List ℤ → ℕ → View
knows sends takes sent taken drained misses =
    record { sends = sends; takes = takes; sent = sent; taken = taken; drained = drained; misses = misses }

-- the pass of a queue that was just made: nothing sent, nothing taken, no miss
abbrev pub newcomer : View
newcomer = knows true true [] [] [] 0

-- a pass that may do nothing and keeps nothing
abbrev pub spent : View
spent = knows false false [] [] [] 0

-- 1. making the two passes: the first may send, and keeps what was sent
abbrev pub sender_of : View → View
sender_of v = knows true false v.sent [] [] v.misses

-- and the second may take, and keeps what was taken
abbrev pub taker_of : View → View
taker_of v = knows false true [] v.taken [] 0

-- 2. a push that succeeds: the value stands at the end of what was sent, and nothing else changes
abbrev pub with_sent : View → ℤ → View
with_sent v x = knows v.sends v.takes (v.sent ++ x ∷ []) v.taken v.drained v.misses

-- 3. a push that finds the queue full, 5. a pop that finds it empty, 8. such a pop by the joined pass: one miss more
abbrev pub missed : View → View
missed v = knows v.sends v.takes v.sent v.taken v.drained (v.misses + 1)

-- 4. a pop that succeeds: the value stands at the end of what was taken, and nothing else changes
abbrev pub with_taken : View → ℤ → View
with_taken v x = knows v.sends v.takes v.sent (v.taken ++ x ∷ []) v.drained v.misses

-- 6. joining the two passes: the joined pass may do both, keeps both lists, and has taken out nothing yet
abbrev pub joined : View → View → View
joined v w = knows true true v.sent w.taken [] (v.misses + w.misses)

-- 7. a pop by the joined pass that succeeds: the value stands at the end of what it took out
abbrev pub with_drained : View → ℤ → View
with_drained v x = knows v.sends v.takes v.sent v.taken (v.drained ++ x ∷ []) v.misses

-- what the queue holds are the last of the values that were sent
abbrev pub EndsSent : View → List ℤ → Type 0
EndsSent v items = (before : List ℤ) × (v.sent ≡ before ++ items)

-- what was sent is what was taken, then what the joined pass took out, then these items
abbrev pub Leaves : View → List ℤ → Type 0
Leaves v items = v.sent ≡ v.taken ++ (v.drained ++ items)

-- so it is with some items
abbrev pub HasRest : View → Type 0
HasRest v = (items : List ℤ) × Leaves v items

-- the same, and what the joined pass took out and these items are no more than n together
abbrev pub LeavesWithin : ℕ → View → Type 0
LeavesWithin n v = (items : List ℤ) × Leaves v items × (length (v.drained ++ items) ≤ n)
