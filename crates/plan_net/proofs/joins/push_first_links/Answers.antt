use Rattle.net_shape.specs.Plans.{taps_at}
use Rattle.plan_net.specs.machine.Tables.{link_from}
use Rattle.plan_net.proofs.Steps.{more_joined, none_joined}
use Rattle.plan_net.proofs.joins.push_first_links.Goals as goal

pub loop-lane-init : goal.loop-lane-init
loop-lane-init c = none_joined _ _

pub loop-lane-preserved : goal.loop-lane-preserved
loop-lane-preserved c =
    let p = c.args.layout.now in
    more_joined (λ lane. link_from p c.args.from c.args.tensor lane (taps_at p c.args.tensor lane)) c.args.queues.now.items c.loop-lane.queues.items c.push_link.new.queues.items c.loop-lane.lane
    c.loop-lane.invariant c.in_ok-push_link.ensures
