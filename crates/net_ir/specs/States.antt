-- States of the machine that counts firings and events.
use Rattle.std.specs.Prelude.{◌≡◌, ◌<◌, ◌≤◌, ◌+◌, ◌-◌, nat_lt, nat_eq, ℕ, Bool, true, not, ◌&&◌, List, [], ◌∷◌, length, take, map, Option, Some, None, slice_index_or, slice_set, if◌then◌else◌}
use Rattle.std.specs.List.{list_any}
use Rattle.net_ir.specs.declared.events.Event.{Event}
use Rattle.net_ir.specs.declared.events.Event.TheVariants.{Take, Send, Close}
use Rattle.net_ir.specs.declared.events.Turn.{Turn}
use Rattle.net_ir.specs.Nets.{Net, queue_at, exits}
use Rattle.net_ir.specs.Firings.{takes, events, firings_at}

-- a module that has done nothing
abbrev pub unmoved : Turn
unmoved = record { fired = 0; part = 0 }

-- a state gives each module, in firing order, its completed firings and the events done in its running firing
abbrev pub turn_at : List Turn → ℕ → Turn
turn_at state m = slice_index_or state m unmoved

-- the queues that a module's running firing has taken from
unfoldable pub taken_now : Net → ℕ → Turn → List ℕ
taken_now net m turn = take turn.part (takes net m turn.fired)

-- the queues that a module's running firing has sent into
unfoldable pub sent_now : Net → ℕ → Turn → List ℕ
sent_now net m turn = take (turn.part - length (takes net m turn.fired)) (exits net m)

-- 1 where the number is in the list, else 0
abbrev pub once : ℕ → List ℕ → ℕ
once n ns = if list_any (nat_eq n) ns then 1 else 0

-- the takes of a queue: its receiver's completed firings less the lead, and 1 where the running firing has taken
unfoldable pub taken_by : Net → ℕ → Turn → ℕ
taken_by net n turn =
    (turn.fired - (queue_at net.queues n).lead) + once n (taken_now net (queue_at net.queues n).to turn)

-- the sends of a queue: its sender's completed firings, and 1 where the running firing has sent
unfoldable pub sent_by : Net → ℕ → Turn → ℕ
sent_by net n turn = turn.fired + once n (sent_now net (queue_at net.queues n).from turn)

-- the takes of a queue in a state
abbrev pub taken : Net → List Turn → ℕ → ℕ
taken net state n = taken_by net n (turn_at state (queue_at net.queues n).to)

-- the sends of a queue in a state
abbrev pub sent : Net → List Turn → ℕ → ℕ
sent net state n = sent_by net n (turn_at state (queue_at net.queues n).from)

-- a module's two numbers are in range
pub record IsTurn (net : Net) (firings m : ℕ) (turn : Turn) : Type 0 where
  pub completed : turn.fired ≤ firings_at net firings m
  pub running : turn.part < length (events net m turn.fired)
  pub over : turn.fired ≡ firings_at net firings m → turn.part ≡ 0

-- a lawful state: each module's numbers are in range, and each queue has takes ≤ sends ≤ takes + capacity
pub record IsLawful (net : Net) (firings : ℕ) (state : List Turn) : Type 0 where
  pub whole : length state ≡ length net.modules
  pub turns : (m : ℕ) → m < length net.modules → IsTurn net firings m (turn_at state m)
  pub low : (n : ℕ) → n < length net.queues → taken net state n ≤ sent net state n
  pub high : (n : ℕ) → n < length net.queues → sent net state n ≤ taken net state n + (queue_at net.queues n).capacity

-- the state of zeros
abbrev pub zeros : Net → List Turn
zeros net = map (λ _. unmoved) net.modules

-- the next event of a module
unfoldable pub next_event : Net → ℕ → Turn → Event
next_event net m turn = slice_index_or (events net m turn.fired) turn.part Close

-- the queue that an event touches, if any, is one of the network
abbrev pub IsKnown : Net → Event → Type 0
IsKnown net (Take n) = n < length net.queues
IsKnown net (Send n) = n < length net.queues
IsKnown net Close = Unit {0}

-- A take is possible where the queue holds something, a send where it holds less than its capacity, closing always.
unfoldable pub is_possible : Net → List Turn → Event → Bool
is_possible net state (Take n) = nat_lt (taken net state n) (sent net state n)
is_possible net state (Send n) = nat_lt (sent net state n) (taken net state n + (queue_at net.queues n).capacity)
is_possible net state Close = true

-- the module has a firing left
abbrev pub has_firing : Net → ℕ → List Turn → ℕ → Bool
has_firing net firings state m = nat_lt (turn_at state m).fired (firings_at net firings m)

-- the module can do its next event
unfoldable pub can_step : Net → ℕ → List Turn → ℕ → Bool
can_step net firings state m =
    has_firing net firings state m && is_possible net state (next_event net m (turn_at state m))

-- a module's numbers after an event
abbrev pub turn_after : Event → Turn → Turn
turn_after (Take n) turn = record { fired = turn.fired; part = turn.part + 1 }
turn_after (Send n) turn = record { fired = turn.fired; part = turn.part + 1 }
turn_after Close turn = record { fired = turn.fired + 1; part = 0 }

-- the state after a module's next event: no other module's numbers change
unfoldable pub after : Net → List Turn → ℕ → List Turn
after net state m = slice_set state m (turn_after (next_event net m (turn_at state m)) (turn_at state m))

-- a module's next event is an event of the machine: a firing is left to it, and the state stays lawful
pub record IsEvent (net : Net) (firings : ℕ) (state : List Turn) (m : ℕ) : Type 0 where
  pub left : (turn_at state m).fired < firings_at net firings m
  pub lawful : IsLawful net firings (after net state m)

-- From a state the modules of a list do their next events, one after another, and lead to another state.
abbrev pub Run : Net → ℕ → List Turn → List ℕ → List Turn → Type 0
Run net firings state [] end = end ≡ state
Run net firings state (m ∷ ms) end =
    (m < length net.modules) × (can_step net firings state m ≡ true) × Run net firings (after net state m) ms end

-- the other end of the queue that an event touches
abbrev pub other_end : Net → Event → Option ℕ
other_end net (Take n) = Some (queue_at net.queues n).from
other_end net (Send n) = Some (queue_at net.queues n).to
other_end net Close = None

-- the module that a module waits for: the other end of the queue that forbids its next event
unfoldable pub waits_for : Net → ℕ → List Turn → ℕ → Option ℕ
waits_for net firings state m =
    if has_firing net firings state m && not (is_possible net state (next_event net m (turn_at state m)))
    then other_end net (next_event net m (turn_at state m)) else None

-- no module has a firing left
abbrev pub IsFinished : Net → ℕ → List Turn → Type 0
IsFinished net firings state =
    (m : ℕ) → m < length net.modules → (turn_at state m).fired ≡ firings_at net firings m

-- what a `Counts` holds: the network that it was started for, the firings of a module of age 0, and the state
pub record Machine : Type 0 where
  pub network : Net
  pub firings : ℕ
  pub state : List Turn
