-- What the modules of a program's network send and hand on, from what they take.
use Rattle.std.specs.Prelude.{◌≡◌, ℕ, ◌+◌, ◌-◌, ◌*◌, ◌/◌, ◌%◌, ◌<◌, ◌≤◌, min, fold, nat_le, List, [], None, Some, map, length, slice_get, slice_index, slice_index_or, ℤ, pos, negsuc, if◌then◌else◌}
use Rattle.soda_words.specs.IntType.{int32}
use Rattle.int_types.specs.Ranges.{wrapped}
use Rattle.net_ir.specs.Firings.{firings_at}
use Rattle.net_ir.specs.Nets.{Net, entrances, queue_at}
use Rattle.net_ir.specs.declared.network.Module.{Module}
use Rattle.net_ir.specs.declared.network.Module.TheVariants.{Source, Forward, Compute, Sink}
use Rattle.net_build.specs.Planned.{net_under, plan_of}
use Rattle.soda_ir.specs.Counts.{output_number}
use Rattle.soda_ir.specs.Points.{listed}
use Rattle.soda_ir.specs.Program.{PlainProgram}
use Rattle.soda_eval.specs.Runs.{cells_at}
use Rattle.time_stages.specs.Staged.{staged_tensors}
use Rattle.staged_cells.specs.Cells.{port_types, sent_cell}
use Rattle.staged_cells.specs.Streams.{cell_number, queue_lane, sender, sender_of, tensor_of}

-- the cell of an array by its number, and 0 where there is none
abbrev pub numbered : (array : List ℤ) → ℤ → ℤ
numbered array (pos i) = slice_index_or array i (pos 0)
numbered array (negsuc i) = pos 0

-- what a computing module of a staged tensor computes with: the values at its ports, in the order of their numbers,
-- each wrapped to the type of what is read there
abbrev pub wrapped_ports : PlainProgram → (tensor : ℕ) → (ports : List ℤ) → List ℤ
wrapped_ports p v ports =
    listed (λ j. wrapped (slice_index_or (port_types p v) j int32) (slice_index_or ports j (pos 0)))
    (length (port_types p v))

-- what a computing module of a staged tensor sends for the cell of a number
abbrev pub computed : PlainProgram → (rows : ℕ) → (params : List ℤ) → (tensor : ℕ) → (ports : List ℤ) → ℤ → ℤ
computed p rows params v ports z = elim (slice_get (staged_tensors p) v) [
  | None ↦ pos 0
  | Some s ↦ sent_cell p rows params v s (wrapped_ports p v ports) z
]

-- What a module sends in a firing into a queue of a lane, where its ports hold these values, in the order of their
-- numbers. A source sends the cells of its array; what a forwarding module takes it sends on.
abbrev pub sent_by : PlainProgram → (rows : ℕ) → (params : List ℤ) → (delays : List ℕ) → (array : List ℤ) → Module
    → (lane firing : ℕ) → (ports : List ℤ) → ℤ
sent_by p rows params delays array (Source v) lane k ports = numbered array (cell_number (plan_of p delays) v lane k)
sent_by p rows params delays array (Forward v row tap) lane k ports = slice_index_or ports 0 (pos 0)
sent_by p rows params delays array (Compute v row) lane k ports =
    computed p rows params v ports (cell_number (plan_of p delays) v lane k)
sent_by p rows params delays array (Sink v) lane k ports = pos 0

-- what is sent into a queue in a firing of the module that it comes from
unfoldable pub sent_item : PlainProgram → (rows : ℕ) → (params : List ℤ) → (delays : List ℕ) → (array : List ℤ)
    → (queue firing : ℕ) → (ports : List ℤ) → ℤ
sent_item p rows params delays array queue k ports =
    sent_by p rows params delays array (sender (net_under p delays) queue) (queue_lane (net_under p delays) queue) k
    ports

-- the array that a source sends: the input of its number
abbrev pub array_of : (inputs : List (List ℤ)) → Module → List ℤ
array_of inputs m = slice_index_or inputs (tensor_of m) []

-- the number of the output that a sink of a staged tensor takes
abbrev pub output_of : PlainProgram → (tensor : ℕ) → ℕ
output_of p v = elim (slice_get (staged_tensors p) v) [ None ↦ 0 | Some s ↦ output_number p s.tensor ]

-- what the ports of a module hold in a firing, where its queues carry these items: of lead a as many zeros, then the
-- items
abbrev pub port_items : Net → (items : ℕ → ℕ → ℤ) → (number firing : ℕ) → List ℤ
port_items net items m k =
    map (λ queue. if nat_le (queue_at net.queues queue).lead k then items queue (k - (queue_at net.queues queue).lead)
    else pos 0) (entrances net m)

-- In a firing the ports of a module hold what its queues carry, each of a lead of at most the firing's number; the
-- others hold anything.
abbrev pub PortsCarry : Net → (items : ℕ → ℕ → ℤ) → (number firing : ℕ) → (ports : List ℤ) → Type 0
PortsCarry net items m k ports =
    (j : ℕ) → j < length (entrances net m) → (queue_at net.queues (slice_index (entrances net m) j)).lead ≤ k
    → slice_index_or ports j (pos 0) ≡ items (slice_index (entrances net m) j)
    (k - (queue_at net.queues (slice_index (entrances net m) j)).lead)

-- the items of lists, one for each queue
abbrev pub items_of : (lists : ℕ → List ℤ) → (queue item : ℕ) → ℤ
items_of lists queue i = slice_index_or (lists queue) i (pos 0)

-- For how many firings of a module the lists taken give the items, at most all that it has: a queue gives them for as
-- many as its list has items, and as its lead has zeros. A module of age 0 has so many firings.
unfoldable pub firings_given : Net → (firings : ℕ) → (taken : ℕ → List ℤ) → (number : ℕ) → ℕ
firings_given net firings taken m =
    fold min (firings_at net firings m)
    (map (λ queue. length (taken queue) + (queue_at net.queues queue).lead) (entrances net m))

-- the list that is sent into a queue, as far as the lists that its sender took give its items
unfoldable pub sent_list : PlainProgram → (rows : ℕ) → (params : List ℤ) → (delays : List ℕ) → (array : List ℤ)
    → (firings : ℕ) → (taken : ℕ → List ℤ) → (queue : ℕ) → List ℤ
sent_list p rows params delays array firings taken queue =
    listed (λ k. sent_item p rows params delays array queue k
    (port_items (net_under p delays) (items_of taken) (sender_of (net_under p delays) queue) k))
    (firings_given (net_under p delays) firings taken (sender_of (net_under p delays) queue))

-- the item that a sink takes as number t, firing by firing and in one firing lane by lane
abbrev pub item_taken : Net → (unroll : ℕ) → (taken : ℕ → List ℤ) → (number t : ℕ) → ℤ
item_taken net unroll taken m t = items_of taken (slice_index (entrances net m) (t % unroll)) (t / unroll)

-- how many items come in that order before the first that the lists don't give
unfoldable pub items_given : Net → (unroll firings : ℕ) → (taken : ℕ → List ℤ) → (number : ℕ) → ℕ
items_given net unroll firings taken m =
    fold min (unroll * firings_at net firings m)
    (map (λ queue. unroll * length (taken queue) + (queue_at net.queues queue).port) (entrances net m))

-- the list that a sink of an output of this delay hands on: its items from the number of the delay on are the cells
-- from 0 to the last, as far as the lists taken give them
unfoldable pub handed_list : PlainProgram → (rows : ℕ) → (delays : List ℕ) → (firings : ℕ) → (taken : ℕ → List ℤ)
    → (number delay : ℕ) → List ℤ
handed_list p rows delays firings taken m delay =
    listed (λ n. item_taken (net_under p delays) p.unroll taken m (n + delay))
    (min (cells_at p rows) (items_given (net_under p delays) p.unroll firings taken m - delay))

-- a list begins with another
pub record IsPrefix (front whole : List ℤ) : Type 0 where
  pub short : length front ≤ length whole
  pub same : (i : ℕ) → i < length front → slice_index_or front i (pos 0) ≡ slice_index_or whole i (pos 0)

-- what was taken from these queues begins what was taken later
abbrev pub AreLonger : (queues : List ℕ) → (taken more : ℕ → List ℤ) → Type 0
AreLonger queues taken more =
    (j : ℕ) → j < length queues → IsPrefix (taken (slice_index queues j)) (more (slice_index queues j))

-- From each queue a prefix was taken of what was sent into it, and what was sent is a prefix of what the lists taken
-- give.
pub record AreSent (p : PlainProgram) (rows : ℕ) (params : List ℤ) (inputs : List (List ℤ)) (delays : List ℕ)
    (firings : ℕ) (taken sent : ℕ → List ℤ) : Type 0 where
  pub takes : (queue : ℕ) → queue < length (net_under p delays).queues → IsPrefix (taken queue) (sent queue)
  pub sends : (queue : ℕ) → queue < length (net_under p delays).queues
      → IsPrefix (sent queue) (sent_list p rows params delays (array_of inputs (sender (net_under p delays) queue))
      firings taken queue)
