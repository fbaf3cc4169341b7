-- The limits of networks, in the order in which they are tried: of the greatest delay, of the storage of all tensors
-- together, and of the modules.
use Rattle.std.specs.Prelude.{ℕ, nat_lt, Option, None, Some, length, if◌then◌else◌}
use Rattle.delay_net.specs.Sums.{sum_below}
use Rattle.delay_net.specs.Windows.{storage_of}
use Rattle.net_shape.specs.Modules.{modules_of}
use Rattle.net_shape.specs.Plans.{Plan}
use Rattle.plan_net.specs.Limits.{most_modules}
use Rattle.reuse_chain.specs.Lanes.{greatest}
use Rattle.soda_ir.specs.declared.limit.LimitKind.{LimitKind}
use Rattle.soda_ir.specs.declared.limit.LimitKind.TheVariants.{Delay, Reuse, Modules}

-- the greatest delay, in cells
abbrev pub most_delay : ℕ
most_delay = 67108864

-- the storage of all tensors together, in cells
abbrev pub most_reuse : ℕ
most_reuse = 16777216

-- the greatest of the delays of a plan, and 0 where it has none
abbrev pub greatest_delay : Plan → ℕ
greatest_delay p = greatest p.delays

-- the storage of all tensors of a plan together, in cells
abbrev pub cells_held : Plan → ℕ
cells_held p = sum_below (length p.kinds) (storage_of p.reads p.delays)

-- the first limit that a plan passes, with the number that passes it, if it passes one
abbrev pub limit_passed : Plan → Option (LimitKind × ℕ)
limit_passed p =
    if nat_lt most_delay (greatest_delay p) then Some (Delay, greatest_delay p)
    else (if nat_lt most_reuse (cells_held p) then Some (Reuse, cells_held p)
    else (if nat_lt most_modules (length (modules_of p)) then Some (Modules, length (modules_of p)) else None))
