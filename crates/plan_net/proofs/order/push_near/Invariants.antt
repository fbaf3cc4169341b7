use Rattle.std.proofs.Common.{◌≡◌, [], ◌∷◌, ◌++◌}
use Rattle.net_shape.specs.Lists.{joined}
use Rattle.net_shape.specs.Modules.{near_lane}
use Rattle.net_shape.specs.machine.Places.{near_begin}
use Rattle.plan_net.proofs.order.push_near.Given as goal

abbrev pub invariant-loop-lane : goal.invariant-loop-lane
invariant-loop-lane l = record {
  modules : l.modules.items ≡ l.initial.modules.items ++ joined (near_lane l.layout l.tensor) l.lane;
  nears : l.nears.items ≡ l.initial.nears.items ++ joined (λ lane. near_begin l.layout l.tensor lane ∷ []) l.lane;
}
