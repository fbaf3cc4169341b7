use Rattle.std.proofs.Common.{◌++◌, [], ◌∷◌, ◌∙◌, ap}
use Rattle.net_shape.specs.Lists.{joined}
use Rattle.net_shape.specs.Plans.{taps_at}
use Rattle.plan_net.proofs.Steps.{empty_joined, lanes_are, next_joined}
use Rattle.plan_net.proofs.tables.taps_of.Goals as goal

pub loop-tensor-init : goal.loop-tensor-init
loop-tensor-init c = empty_joined _ _ c.new-lanes.ensures.items

pub loop-tensor-preserved : goal.loop-tensor-preserved
loop-tensor-preserved c =
    let p = c.args.layout.now in
    next_joined (λ v. joined (λ lane. taps_at p v lane ∷ []) p.unroll) c.loop-tensor.lanes.items c.add_taps.new.lanes.items c.loop-tensor.tensor c.loop-tensor.invariant
    (c.in_ok-add_taps.ensures ∙ ap (λ ts. c.loop-tensor.lanes.items ++ ts) (lanes_are p c.loop-tensor.tensor c.unroll.result c.deref.result.now (c.deref.ensures.value ∙ c.in_ok-ages.ensures.value) c.unroll.ensures.value))
