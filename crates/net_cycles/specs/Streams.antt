-- The streams of the queues, and what the queues hold of them when no module is in the midst of a firing.
use Rattle.std.specs.Prelude.{◌≡◌, ◌<◌, ◌≤◌, ◌+◌, ◌-◌, ◌%◌, nat_le, ℕ, ℤ, pos, List, length, map, sum, take, slice_index_or, if◌then◌else◌}
use Rattle.net_ir.specs.Nets.{Net, queue_at, entrances, exits}
use Rattle.ring_region.specs.Fifos.{Fifo, fifo_at}
use Rattle.net_cycles.specs.Between.{sends, takes}

-- item n of each queue, counted from 0
abbrev pub Streams : Type 0
Streams = ℕ → ℕ → ℤ

-- The queues have the network's capacities, and each holds as many items as were sent and not yet taken. The number of
-- its oldest item, by the remainder with the capacity, tells that item's place.
pub record HoldCounts (net : Net) (fired : List ℕ) (fifos : List Fifo) : Type 0 where
  pub count : length fifos ≡ length net.queues
  pub capacity : (queue : ℕ) → queue < length net.queues
      → (fifo_at fifos queue).capacity ≡ (queue_at net.queues queue).capacity
  pub positive : (queue : ℕ) → queue < length net.queues → 0 < (queue_at net.queues queue).capacity
  pub first : (queue : ℕ) → queue < length net.queues
      → (fifo_at fifos queue).first ≡ takes net fired queue % (queue_at net.queues queue).capacity
  pub held : (queue : ℕ) → queue < length net.queues
      → takes net fired queue + length (fifo_at fifos queue).items ≡ sends net fired queue

-- each queue holds the items of its stream from its takes to its sends
abbrev pub HoldStreams : Net → List ℕ → List Fifo → Streams → Type 0
HoldStreams net fired fifos stream =
    (queue i : ℕ) → queue < length net.queues → i < length (fifo_at fifos queue).items
    → slice_index_or (fifo_at fifos queue).items i (pos 0) ≡ stream queue (takes net fired queue + i)

-- each item of a stream, from when it is sent until it is taken, lies in the region at the first place of its queue's
-- part plus the remainder of its number by the capacity
abbrev pub ItemsLie : Net → List ℕ → List ℤ → Streams → Type 0
ItemsLie net fired region stream =
    (queue n : ℕ) → queue < length net.queues → takes net fired queue ≤ n → n < sends net fired queue
    → slice_index_or region (sum (take queue (map (λ q. q.capacity) net.queues))
    + n % (queue_at net.queues queue).capacity) (pos 0) ≡ stream queue n

-- what firing k of a module finds at a port: the item of the port's stream, after as many zeros as the lead
abbrev pub port_value_of : Net → Streams → ℕ → ℕ → ℤ
port_value_of net stream k queue =
    if nat_le (queue_at net.queues queue).lead k then stream queue (k - (queue_at net.queues queue).lead) else pos 0

-- what firing k of a module finds at its ports, by port
abbrev pub port_values : Net → Streams → ℕ → ℕ → List ℤ
port_values net stream m k = map (port_value_of net stream k) (entrances net m)

-- what firing k of a module sends into the queues from it, in queue order
abbrev pub sent_values : Net → Streams → ℕ → ℕ → List ℤ
sent_values net stream m k = map (λ queue. stream queue k) (exits net m)
