-- How much the marked queues hold, as those for reuse.
use Rattle.std.specs.Prelude.{◌+◌, ◌-◌, ℕ, zero, suc, Bool, false, List, slice_index_or, if◌then◌else◌}
use Rattle.net_ir.specs.Nets.{Net, queue_at}
use Rattle.net_cycles.specs.Between.{sends, takes}

-- the items in those of the first n queues that are marked: sends less takes
abbrev pub held_below : Net → List ℕ → List Bool → ℕ → ℕ
held_below net fired marked zero = 0
held_below net fired marked (suc n) = held_below net fired marked n
    + (if slice_index_or marked n false then sends net fired n - takes net fired n else 0)

-- the capacities of those of the first n queues that are marked
abbrev pub storage_below : Net → List Bool → ℕ → ℕ
storage_below net marked zero = 0
storage_below net marked (suc n) = storage_below net marked n
    + (if slice_index_or marked n false then (queue_at net.queues n).capacity else 0)
