use Rattle.std.proofs.Common.{◌∙◌, ap, subst, length, sym}
use Rattle.net_shape.specs.Modules.{IsThere, number_of}
use Rattle.net_shape.specs.Plans.{IsPlan}
use Rattle.net_ir.specs.Nets.{entrances}
use Rattle.net_build.specs.Planned.{net_under, plan_of}
use Rattle.soda_eval.specs.Runs.{HasValues}
use Rattle.staged_cells.specs.Cells.{port_types}
use Rattle.staged_cells.specs.Sends.{port_items}
use Rattle.staged_cells.specs.Streams.{stream}
use Rattle.staged_cells.proofs.Designs.{plan_is}
use Rattle.staged_cells.proofs.PortValues.{streams_in_range, wrapped_kept}
use Rattle.staged_cells.proofs.ReadPorts.{reads_counted, wrapped_values}
use Rattle.staged_cells.proofs.Handed.{number_there}
use Rattle.staged_cells.proofs.laws.ports_are_of_reads.Goals as goal

pub returns-clause-count : goal.returns-clause-count
returns-clause-count c = λ p delays m x lane design lt e.
    let plan : IsPlan (plan_of p delays) = plan_is p design.valid.sound delays (c.staging_makes_a_net.ensures p design.valid design.widths) in
    let there = number_there (plan_of p delays) plan m lt in
    let at = there.1 ∙ ap (number_of (plan_of p delays)) e in
    ap (λ n. length (entrances (net_under p delays) n)) at
    ∙ reads_counted p delays plan (λ n. c.queues_stand_in_order.ensures.to (net_under p delays) n
    (c.networks_fit.ensures.network (plan_of p delays) plan)) x lane (subst (IsThere (plan_of p delays)) e there.0)

pub returns-clause-range : goal.returns-clause-range
returns-clause-range c = wrapped_values

pub returns-clause-streams : goal.returns-clause-streams
returns-clause-streams c = λ p delays rows params inputs m x lane k design arrays lt e.
    let plan : IsPlan (plan_of p delays) = plan_is p design.valid.sound delays (c.staging_makes_a_net.ensures p design.valid design.widths) in
    let there = number_there (plan_of p delays) plan m lt in
    let at = there.1 ∙ ap (number_of (plan_of p delays)) e in
    subst (λ n. HasValues (port_types p x) (port_items (net_under p delays) (stream p rows params inputs delays) n k)) (sym at)
    (streams_in_range p delays design plan
    (λ n. c.queues_stand_in_order.ensures.to (net_under p delays) n (c.networks_fit.ensures.network (plan_of p delays) plan)) x lane
    (subst (IsThere (plan_of p delays)) e there.0) rows params inputs arrays k)

pub returns-clause-kept : goal.returns-clause-kept
returns-clause-kept c = λ p delays m x lane ports design lt e have.
    let plan : IsPlan (plan_of p delays) = plan_is p design.valid.sound delays (c.staging_makes_a_net.ensures p design.valid design.widths) in
    let there = number_there (plan_of p delays) plan m lt in
    wrapped_kept p delays design plan
    (λ n. c.queues_stand_in_order.ensures.to (net_under p delays) n (c.networks_fit.ensures.network (plan_of p delays) plan)) x lane
    (subst (IsThere (plan_of p delays)) e there.0) ports have
