use Rattle.std.proofs.Common.{◌≡◌, [], ◌∷◌}
use Rattle.net_shape.specs.Lists.{joined}
use Rattle.net_shape.specs.Modules.{far_forwards}
use Rattle.net_shape.specs.machine.Places.{far_lane_begin}
use Rattle.plan_net.proofs.order.push_all_far.Given as goal

abbrev pub invariant-loop-tensor : goal.invariant-loop-tensor
invariant-loop-tensor l = record {
  modules : l.modules.items ≡ joined (far_forwards l.layout) l.tensor;
  tops : l.tops.items ≡ joined (λ v. joined (λ lane. far_lane_begin l.layout v lane ∷ []) l.layout.unroll) l.tensor;
}
