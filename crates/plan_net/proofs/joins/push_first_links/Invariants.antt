use Rattle.std.proofs.Common.{◌≡◌, ◌++◌}
use Rattle.net_shape.specs.Lists.{joined}
use Rattle.net_shape.specs.Plans.{taps_at}
use Rattle.plan_net.specs.machine.Tables.{link_from}
use Rattle.plan_net.proofs.joins.push_first_links.Given as goal

abbrev pub invariant-loop-lane : goal.invariant-loop-lane
invariant-loop-lane l =
    l.queues.items ≡ l.initial.queues.items ++ joined (λ lane. link_from l.layout l.from l.tensor lane (taps_at l.layout l.tensor lane)) l.lane
