-- Networks: modules in firing order, and the queues between them.
use Rattle.std.specs.Prelude.{◌≡◌, ◌≢◌, ◌↔◌, Contains, AllPairs, ◌<◌, ◌≤◌, ◌+◌, ◌==◌, nat_lt, ℕ, zero, suc, List, [], ◌∷◌, ◌++◌, length, slice_index_or, if◌then◌else◌}
use Rattle.net_ir.specs.declared.network.Module.{Module}
use Rattle.net_ir.specs.declared.network.Module.TheVariants.{Source, Forward, Compute, Sink}
use Rattle.net_ir.specs.declared.network.Queue.{Queue}

-- a network: its modules in firing order, and its queues in queue order
pub record Net : Type 0 where
  pub modules : List Module
  pub queues : List Queue

-- the age of a forwarding module is its tap, that of every other module is 0
abbrev pub age : Module → ℕ
age (Source tensor) = 0
age (Forward tensor lane tap) = tap
age (Compute tensor lane) = 0
age (Sink tensor) = 0

-- the age of the module of a number
abbrev pub age_at : Net → ℕ → ℕ
age_at net m = age (slice_index_or net.modules m (Sink 0))

-- the queue of a number
abbrev pub queue_at : List Queue → ℕ → Queue
queue_at queues n = slice_index_or queues n (record { from = 0; to = 0; port = 0; capacity = 0; lead = 0 })

-- the number of a queue, put into a list of such numbers that stands in the order of their ports
abbrev pub put_by_port : List Queue → ℕ → List ℕ → List ℕ
put_by_port queues n [] = n ∷ []
put_by_port queues n (x ∷ xs) =
    if nat_lt (queue_at queues x).port (queue_at queues n).port then x ∷ put_by_port queues n xs else n ∷ x ∷ xs

-- the queues among the first k that end at a module, in the order of their ports
unfoldable pub entrances_among : List Queue → ℕ → ℕ → List ℕ
entrances_among queues m zero = []
entrances_among queues m (suc k) =
    if (queue_at queues k).to == m then put_by_port queues k (entrances_among queues m k)
    else entrances_among queues m k

-- the queues among the first k that begin at a module, in queue order
unfoldable pub exits_among : List Queue → ℕ → ℕ → List ℕ
exits_among queues m zero = []
exits_among queues m (suc k) =
    if (queue_at queues k).from == m then exits_among queues m k ++ k ∷ [] else exits_among queues m k

-- the queues that end at a module, in the order of their ports
abbrev pub entrances : Net → ℕ → List ℕ
entrances net m = entrances_among net.queues m (length net.queues)

-- the queues that begin at a module, in queue order
abbrev pub exits : Net → ℕ → List ℕ
exits net m = exits_among net.queues m (length net.queues)

-- each queue joins two different modules, and no two queues have one port of one module
pub record IsNetwork (net : Net) : Type 0 where
  pub from : (n : ℕ) → n < length net.queues → (queue_at net.queues n).from < length net.modules
  pub to : (n : ℕ) → n < length net.queues → (queue_at net.queues n).to < length net.modules
  pub ends : (n : ℕ) → n < length net.queues → (queue_at net.queues n).from ≢ (queue_at net.queues n).to
  pub ports : (i j : ℕ) → i < j → j < length net.queues
      → (queue_at net.queues i).to ≡ (queue_at net.queues j).to
      → (queue_at net.queues i).port ≢ (queue_at net.queues j).port

-- the list of the queues that end at a module has each of them, in the rising order of their ports
pub record StandByPort (net : Net) (m : ℕ) : Type 0 where
  pub all : (n : ℕ) → Contains (entrances net m) n ↔ ((n < length net.queues) × ((queue_at net.queues n).to ≡ m))
  pub rising : AllPairs (λ x y. (queue_at net.queues x).port < (queue_at net.queues y).port) (entrances net m)

-- the list of the queues that begin at a module has each of them, in queue order
pub record StandInOrder (net : Net) (m : ℕ) : Type 0 where
  pub all : (n : ℕ) → Contains (exits net m) n ↔ ((n < length net.queues) × ((queue_at net.queues n).from ≡ m))
  pub rising : AllPairs (λ x y. x < y) (exits net m)

-- A queue fits the firing order. Its receiver takes an item no earlier than the sender's age lets it be sent, and the
-- queue holds what is sent until the receiver's age and lead let it be taken; the end that waits for a later module
-- has one firing to spare.
pub record FitsOrder (net : Net) (queue : Queue) : Type 0 where
  pub onward : queue.from < queue.to
      → (age_at net queue.from ≤ age_at net queue.to + queue.lead)
      × (age_at net queue.to + queue.lead < age_at net queue.from + queue.capacity)
  pub back : queue.to < queue.from
      → (age_at net queue.from < age_at net queue.to + queue.lead)
      × (age_at net queue.to + queue.lead ≤ age_at net queue.from + queue.capacity)

-- each queue of the network fits the firing order
abbrev pub IsOrderly : Net → Type 0
IsOrderly net = (n : ℕ) → n < length net.queues → FitsOrder net (queue_at net.queues n)
