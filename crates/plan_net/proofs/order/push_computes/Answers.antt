use Rattle.plan_net.proofs.Steps.{more_joined, none_joined}
use Rattle.plan_net.proofs.order.push_computes.Goals as goal

pub loop-lane-init : goal.loop-lane-init
loop-lane-init c = none_joined _ _

pub loop-lane-preserved : goal.loop-lane-preserved
loop-lane-preserved c = more_joined _ _ _ _ _ c.loop-lane.invariant c.in_ok-push.ensures.items
