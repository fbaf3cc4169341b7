use Rattle.std.proofs.Common.{◌≡◌, ◌++◌, map, nat_lt, reverse, take}
use Rattle.std.specs.List.{filter}
use Rattle.net_ir.specs.declared.network.Module.TheVariants.{Forward}
use Rattle.plan_net.proofs.order.push_far_lane.Given as goal

abbrev pub invariant-loop-passed : goal.invariant-loop-passed
invariant-loop-passed l =
    l.modules.items ≡ l.initial.modules.items ++ map (λ tap. Forward l.tensor l.lane tap) (filter (λ t. nat_lt 0 t) (take l.passed (reverse l.taps)))
