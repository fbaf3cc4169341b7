-- Queues that are those of a network.
use Rattle.std.specs.Prelude.{◌≡◌, ◌≢◌, ◌<◌, ◌^◌, ℕ, List, map, sum, take}
use Rattle.net_ir.specs.declared.network.Queue.{Queue}
use Rattle.net_ir.specs.Nets.{queue_at}

-- none of the first k queues has the port of the queue of a number, at its module
abbrev pub OwnPort : List Queue → ℕ → ℕ → Type 0
OwnPort queues number k =
    (other : ℕ) → other < k → (queue_at queues other).to ≡ (queue_at queues number).to
    → (queue_at queues other).port ≢ (queue_at queues number).port

-- the first k queues are those of a network of so many modules, and not too large
pub record IsSound (modules : ℕ) (queues : List Queue) (k : ℕ) : Type 0 where
  pub from : (n : ℕ) → n < k → (queue_at queues n).from < modules
  pub to : (n : ℕ) → n < k → (queue_at queues n).to < modules
  pub ends : (n : ℕ) → n < k → (queue_at queues n).from ≢ (queue_at queues n).to
  pub ports : (n : ℕ) → n < k → OwnPort queues n n
  pub positive : (n : ℕ) → n < k → 0 < (queue_at queues n).capacity
  pub small : sum (map (λ q. q.capacity) (take k queues)) < 2 ^ 41
