use Rattle.std.proofs.Common.{◌≡◌, [], ◌∷◌, ◌++◌}
use Rattle.net_shape.specs.Lists.{joined}
use Rattle.net_shape.specs.Modules.{far_lane}
use Rattle.net_shape.specs.machine.Places.{far_lane_begin}
use Rattle.plan_net.proofs.order.push_far.Given as goal

abbrev pub invariant-loop-lane : goal.invariant-loop-lane
invariant-loop-lane l = record {
  modules : l.modules.items ≡ l.initial.modules.items ++ joined (far_lane l.layout l.tensor) l.lane;
  tops : l.tops.items ≡ l.initial.tops.items ++ joined (λ lane. far_lane_begin l.layout l.tensor lane ∷ []) l.lane;
}
