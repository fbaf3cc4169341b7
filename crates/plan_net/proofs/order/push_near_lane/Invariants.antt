use Rattle.std.proofs.Common.{◌≡◌, ◌++◌, map, nat_lt, not, take}
use Rattle.std.specs.List.{filter}
use Rattle.net_ir.specs.declared.network.Module.TheVariants.{Forward}
use Rattle.plan_net.proofs.order.push_near_lane.Given as goal

abbrev pub invariant-loop-tap : goal.invariant-loop-tap
invariant-loop-tap l =
    l.modules.items ≡ l.initial.modules.items ++ map (λ tap. Forward l.tensor l.lane tap) (filter (λ t. not (nat_lt 0 t)) (take l.tap-index l.taps))
