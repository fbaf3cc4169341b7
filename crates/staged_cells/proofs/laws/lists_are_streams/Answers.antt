use Rattle.std.proofs.Common.{◌≤◌, ◌∙◌, ap, subst, length, slice_index}
use Rattle.net_ir.specs.Nets.{entrances}
use Rattle.net_shape.specs.Modules.{IsThere, number_of}
use Rattle.net_shape.specs.Plans.{IsPlan}
use Rattle.net_build.specs.Planned.{net_under, plan_of}
use Rattle.staged_cells.specs.Sends.{IsPrefix, handed_list}
use Rattle.staged_cells.proofs.Designs.{plan_is}
use Rattle.staged_cells.proofs.Handed.{handed_right, handed_whole, number_there}
use Rattle.staged_cells.proofs.Runs.{lists_right}
use Rattle.staged_cells.proofs.laws.lists_are_streams.Goals as goal

pub returns-clause-sent : goal.returns-clause-sent
returns-clause-sent c = λ p delays rows params inputs firings taken sent queue i design arrays run lt below.
    let plan : IsPlan (plan_of p delays) = plan_is p design.valid.sound delays (c.staging_makes_a_net.ensures p design.valid design.widths) in
    lists_right p delays design plan (λ n. c.queues_stand_in_order.ensures.to (net_under p delays) n
    (c.networks_fit.ensures.network (plan_of p delays) plan)) rows params inputs arrays firings taken sent run queue lt i below

pub returns-clause-handed : goal.returns-clause-handed
returns-clause-handed c = λ p delays rows params inputs firings taken sent m v handed design arrays run lt e prefix.
    let plan : IsPlan (plan_of p delays) = plan_is p design.valid.sound delays (c.staging_makes_a_net.ensures p design.valid design.widths) in
    let there = number_there (plan_of p delays) plan m lt in
    let at = there.1 ∙ ap (number_of (plan_of p delays)) e in
    handed_right p delays plan (λ n. c.queues_stand_in_order.ensures.to (net_under p delays) n (c.networks_fit.ensures.network (plan_of p delays) plan)) v
    (subst (IsThere (plan_of p delays)) e there.0)
    rows params inputs design arrays firings taken sent run handed
    (subst (λ n. IsPrefix handed (handed_list p rows delays firings taken n (slice_index delays v))) at prefix)

pub returns-clause-whole : goal.returns-clause-whole
returns-clause-whole c = λ p delays rows firings taken m v design lt e enough each.
    let plan : IsPlan (plan_of p delays) = plan_is p design.valid.sound delays (c.staging_makes_a_net.ensures p design.valid design.widths) in
    let there = number_there (plan_of p delays) plan m lt in
    let at = there.1 ∙ ap (number_of (plan_of p delays)) e in
    ap (λ n. length (handed_list p rows delays firings taken n (slice_index delays v))) at
    ∙ handed_whole p delays plan (λ n. c.queues_stand_in_order.ensures.to (net_under p delays) n (c.networks_fit.ensures.network (plan_of p delays) plan)) v
    (subst (IsThere (plan_of p delays)) e there.0) rows firings taken enough
    (λ lane below. subst (λ n. firings ≤ length (taken (slice_index (entrances (net_under p delays) n) lane))) at (each lane below))
