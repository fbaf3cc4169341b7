use Rattle.std.proofs.Common.{◌≡◌, ◌++◌, [], ◌∷◌}
use Rattle.net_shape.specs.Lists.{joined}
use Rattle.plan_net.specs.machine.Tables.{served_at}
use Rattle.plan_net.proofs.serving.serve_lanes.Given as goal

abbrev pub invariant-loop-lane : goal.invariant-loop-lane
invariant-loop-lane l =
    l.lanes.items ≡ l.initial.lanes.items ++ joined (λ lane. served_at l.layout l.tensor lane ∷ []) l.lane
