-- States in which no module is in the midst of a firing.
use Rattle.std.specs.Prelude.{◌≡◌, ◌<◌, ◌≤◌, ◌+◌, ◌-◌, ℕ, Bool, false, List, length, map, slice_index, slice_index_or, slice_set}
use Rattle.net_ir.specs.declared.events.Turn.{Turn}
use Rattle.net_ir.specs.Nets.{Net, queue_at}
use Rattle.net_ir.specs.Firings.{firings_at}

-- a module that has done so many firings and has begun no other
abbrev pub whole : ℕ → Turn
whole k = record { fired = k; part = 0 }

-- the state in which each module has done so many firings and has begun no other
abbrev pub between : List ℕ → List Turn
between fired = map whole fired

-- one firing more of a module
abbrev pub fired_once : List ℕ → ℕ → List ℕ
fired_once fired m = slice_set fired m (slice_index fired m + 1)

-- the items sent into a queue then: its sender's firings
abbrev pub sends : Net → List ℕ → ℕ → ℕ
sends net fired queue = slice_index fired (queue_at net.queues queue).from

-- the items taken from a queue then: its receiver's firings less the lead
abbrev pub takes : Net → List ℕ → ℕ → ℕ
takes net fired queue = slice_index fired (queue_at net.queues queue).to - (queue_at net.queues queue).lead

-- a module can do its next firing: it isn't stalled, has one left, each queue that it takes from holds something, and
-- each that it sends into has room
pub record CanFire (net : Net) (firings : ℕ) (stalled : List Bool) (fired : List ℕ) (m : ℕ) : Type 0 where
  pub awake : slice_index_or stalled m false ≡ false
  pub left : slice_index fired m < firings_at net firings m
  pub filled : (queue : ℕ) → queue < length net.queues → (queue_at net.queues queue).to ≡ m
      → (queue_at net.queues queue).lead ≤ slice_index fired m
      → slice_index fired m < sends net fired queue + (queue_at net.queues queue).lead
  pub roomy : (queue : ℕ) → queue < length net.queues → (queue_at net.queues queue).from ≡ m
      → slice_index fired m < takes net fired queue + (queue_at net.queues queue).capacity
