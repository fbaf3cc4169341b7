use Rattle.std.proofs.Common.{[], ◌∷◌}
use Rattle.net_shape.specs.Lists.{joined}
use Rattle.plan_net.specs.machine.Tables.{served_at}
use Rattle.plan_net.proofs.Steps.{empty_joined, next_joined}
use Rattle.plan_net.proofs.serving.served_of.Goals as goal

pub loop-tensor-init : goal.loop-tensor-init
loop-tensor-init c = empty_joined _ _ c.new-lanes.ensures.items

pub loop-tensor-preserved : goal.loop-tensor-preserved
loop-tensor-preserved c =
    let p = c.args.layout.now in
    next_joined (λ v. joined (λ lane. served_at p v lane ∷ []) p.unroll) c.loop-tensor.lanes.items c.serve_lanes.new.lanes.items c.loop-tensor.tensor c.loop-tensor.invariant
    c.in_ok-serve_lanes.ensures
