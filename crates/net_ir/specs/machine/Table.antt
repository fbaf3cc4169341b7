-- How a network keeps its queues at hand.
use Rattle.std.specs.Prelude.{◌≡◌, ◌<◌, ◌^◌, ℕ, List, length, slice_index_or}
use Rattle.net_ir.specs.declared.network.Queue.{Queue}
use Rattle.net_ir.specs.declared.network.Ends.{Ends}
use Rattle.net_ir.specs.Nets.{Net, entrances_among, exits_among, IsNetwork}

-- at each of so many modules, the first k queues are listed
pub record IsListed (queues : List Queue) (modules k : ℕ) (ends : List Ends) : Type 0 where
  pub whole : length ends ≡ modules
  pub entrances_at : (m : ℕ) (d : Ends) → m < modules
      → (slice_index_or ends m d).entrances.items ≡ entrances_among queues m k
  pub exits_at : (m : ℕ) (d : Ends) → m < modules → (slice_index_or ends m d).exits.items ≡ exits_among queues m k

-- a network within the limits of its numbers, and all queues listed at each module
pub record IsTable (net : Net) (ends : List Ends) : Type 0 where
  pub network : IsNetwork net
  pub modules : length net.modules < 2 ^ 32
  pub queues : length net.queues < 2 ^ 32
  pub listed : IsListed net.queues (length net.modules) (length net.queues) ends
