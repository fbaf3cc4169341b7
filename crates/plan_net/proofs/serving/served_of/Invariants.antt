use Rattle.std.proofs.Common.{◌≡◌, [], ◌∷◌}
use Rattle.net_shape.specs.Lists.{joined}
use Rattle.plan_net.specs.machine.Tables.{served_at}
use Rattle.plan_net.proofs.serving.served_of.Given as goal

abbrev pub invariant-loop-tensor : goal.invariant-loop-tensor
invariant-loop-tensor l = l.lanes.items ≡ joined (λ v. joined (λ lane. served_at l.layout v lane ∷ []) l.layout.unroll) l.tensor
