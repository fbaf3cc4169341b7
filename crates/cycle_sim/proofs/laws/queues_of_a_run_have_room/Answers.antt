use Rattle.net_shape.specs.Plans.{IsPlan}
use Rattle.cycle_sim.specs.Settings.{net_in, plan_in}
use Rattle.cycle_sim.proofs.EndsInOrder.{has_room}
use Rattle.cycle_sim.proofs.laws.queues_of_a_run_have_room.Goals as goal

pub returns : goal.returns
returns c s queue settings lt =
    let plan : IsPlan (plan_in s) = c.programs_have_plans.ensures.plan s.program s.delays settings.streams.valid settings.streams.widths in
    has_room (net_in s) queue (c.networks_fit.ensures.network (plan_in s) plan) (c.networks_fit.ensures.orderly (plan_in s) plan queue lt) lt
