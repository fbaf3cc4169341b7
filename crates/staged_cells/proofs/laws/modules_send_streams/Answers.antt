use Rattle.net_shape.specs.Plans.{IsPlan}
use Rattle.net_build.specs.Planned.{net_under, plan_of}
use Rattle.staged_cells.proofs.Designs.{plan_is}
use Rattle.staged_cells.proofs.Firings.{firing_sends, module_sends, ports_carry}
use Rattle.staged_cells.proofs.laws.modules_send_streams.Goals as goal

pub returns-clause-item : goal.returns-clause-item
returns-clause-item c = λ p delays rows params inputs queue k ports design arrays lt carry.
    let plan : IsPlan (plan_of p delays) = plan_is p design.valid.sound delays (c.staging_makes_a_net.ensures p design.valid design.widths) in
    firing_sends p delays design plan (λ m. c.queues_stand_in_order.ensures.to (net_under p delays) m
    (c.networks_fit.ensures.network (plan_of p delays) plan)) rows params inputs arrays queue k ports lt carry

pub returns-clause-carry : goal.returns-clause-carry
returns-clause-carry c = λ p delays items m k ports e. ports_carry (net_under p delays) items m k ports e

pub returns-clause-all : goal.returns-clause-all
returns-clause-all c = λ p delays rows params inputs m k ports design arrays carry.
    let plan : IsPlan (plan_of p delays) = plan_is p design.valid.sound delays (c.staging_makes_a_net.ensures p design.valid design.widths) in
    module_sends p delays design plan
    (λ n. c.queues_stand_in_order.ensures.to (net_under p delays) n (c.networks_fit.ensures.network (plan_of p delays) plan)) rows params inputs arrays m k
    ports (c.queues_stand_in_order.ensures.from (net_under p delays) m) carry
