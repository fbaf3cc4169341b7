use Rattle.std.proofs.Common.{◌≡◌, [], ◌∷◌, ◌++◌}
use Rattle.net_ir.specs.declared.network.Module.TheVariants.{Compute}
use Rattle.net_shape.specs.Lists.{joined}
use Rattle.plan_net.proofs.order.push_computes.Given as goal

abbrev pub invariant-loop-lane : goal.invariant-loop-lane
invariant-loop-lane l = l.modules.items ≡ l.initial.modules.items ++ joined (λ lane. Compute l.tensor lane ∷ []) l.lane
