-- Reuse queues: those that hold the cells of a tensor between its reads.
use Rattle.std.specs.Prelude.{ℕ, Bool, false, ◌&&◌, ◌==◌, nat_lt, map, filter, sum, slice_index_or}
use Rattle.net_ir.specs.Nets.{Net}
use Rattle.net_ir.specs.declared.network.Module.{Module}
use Rattle.net_ir.specs.declared.network.Module.TheVariants.{Source, Forward, Compute, Sink}
use Rattle.net_ir.specs.declared.network.Queue.{Queue}

-- a forwarding module of the tensor that isn't at tap 0. Its gap is at least 1, since taps rise
abbrev pub is_far : ℕ → Module → Bool
is_far v (Source w) = false
is_far v (Forward w lane tap) = w == v && nat_lt 0 tap
is_far v (Compute w lane) = false
is_far v (Sink w) = false

-- a reuse queue of a tensor: one that ends at such a module
abbrev pub is_reuse : Net → ℕ → Queue → Bool
is_reuse net v queue = is_far v (slice_index_or net.modules queue.to (Sink 0))

-- the capacities of the reuse queues of a tensor, added up
unfoldable pub reuse_cells : Net → ℕ → ℕ
reuse_cells net v = sum (map (λ queue. queue.capacity) (filter (is_reuse net v) net.queues))
