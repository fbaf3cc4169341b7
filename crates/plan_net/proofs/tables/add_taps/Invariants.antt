use Rattle.std.proofs.Common.{◌≡◌, [], ◌∷◌, ◌++◌}
use Rattle.net_shape.specs.Lists.{joined}
use Rattle.plan_net.proofs.tables.add_taps.Given as goal
use Rattle.reuse_chain.specs.Lanes.{taps_of}

abbrev pub invariant-loop-lane : goal.invariant-loop-lane
invariant-loop-lane l =
    l.lanes.items ≡ l.initial.lanes.items ++ joined (λ lane. taps_of l.ages lane l.unroll ∷ []) l.lane
