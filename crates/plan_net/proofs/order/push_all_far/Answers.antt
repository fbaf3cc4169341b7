use Rattle.std.proofs.Common.{[], ◌∷◌}
use Rattle.net_shape.specs.Lists.{joined}
use Rattle.net_shape.specs.Modules.{far_forwards}
use Rattle.net_shape.specs.machine.Places.{far_lane_begin}
use Rattle.plan_net.proofs.Steps.{empty_joined, next_joined, tensor_begun}
use Rattle.plan_net.proofs.order.push_all_far.Goals as goal

pub loop-tensor-init : goal.loop-tensor-init
loop-tensor-init c = record { modules = empty_joined _ _ c.requires.modules; tops = empty_joined _ _ c.requires.tops }

pub push_far-requires-clause-begun : goal.push_far-requires-clause-begun
push_far-requires-clause-begun c = tensor_begun c.args.layout.now c.loop-tensor.tensor c.loop-tensor.modules.items c.loop-tensor.invariant.modules

pub loop-tensor-preserved : goal.loop-tensor-preserved
loop-tensor-preserved c =
    let p = c.args.layout.now in
    record {
      modules = next_joined (far_forwards p) c.loop-tensor.modules.items c.push_far.new.modules.items c.loop-tensor.tensor c.loop-tensor.invariant.modules c.in_ok-push_far.ensures.modules;
      tops = next_joined (λ v. joined (λ lane. far_lane_begin p v lane ∷ []) p.unroll) c.loop-tensor.tops.items c.push_far.new.tops.items c.loop-tensor.tensor c.loop-tensor.invariant.tops c.in_ok-push_far.ensures.tops;
    }
