-- A network that runs in cycles, between two firings.
use Rattle.std.specs.Prelude.{◌≡◌, ◌<◌, ◌^◌, ℕ, ℤ, List, length}
use Rattle.net_ir.specs.Nets.{Net, IsNetwork}
use Rattle.net_ir.specs.States.{IsLawful}
use Rattle.ring_region.specs.Fifos.{Fifo}
use Rattle.net_cycles.specs.Between.{between}
use Rattle.net_cycles.specs.Streams.{HoldCounts}

-- its network, the firings of a module of age 0, the firings that each module has done, and the queues
pub record Running : Type 0 where
  pub network : Net
  pub firings : ℕ
  pub fired : List ℕ
  pub fifos : List Fifo

-- what holds of it
pub record IsRunning (r : Running) : Type 0 where
  pub network : IsNetwork r.network
  pub whole : length r.fired ≡ length r.network.modules
  pub lawful : IsLawful r.network r.firings (between r.fired)
  pub counts : HoldCounts r.network r.fired r.fifos

-- the same, and there are places for the values of a firing
pub record IsPipeline (r : Running) (ports sends : List ℤ) : Type 0 where
  pub running : IsRunning r
  pub modules : length r.network.modules < 2 ^ 32
  pub port_places : length ports ≡ length r.network.queues
  pub send_places : length sends ≡ length r.network.queues
