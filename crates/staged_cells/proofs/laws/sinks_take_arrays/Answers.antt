use Rattle.std.proofs.Common.{◌∙◌, ap, subst, length, slice_index}
use Rattle.net_ir.specs.Nets.{entrances}
use Rattle.net_shape.specs.Modules.{IsThere, number_of}
use Rattle.net_shape.specs.Plans.{IsPlan}
use Rattle.net_build.specs.Planned.{net_under, plan_of}
use Rattle.staged_cells.specs.Sends.{port_items}
use Rattle.staged_cells.specs.Streams.{stream}
use Rattle.staged_cells.proofs.Designs.{plan_is}
use Rattle.staged_cells.proofs.Handed.{as_many_lanes, lane_carries, lanes_held, number_there, sink_array}
use Rattle.staged_cells.proofs.laws.sinks_take_arrays.Goals as goal

pub returns-clause-count : goal.returns-clause-count
returns-clause-count c = λ p delays m v design lt e.
    let plan : IsPlan (plan_of p delays) = plan_is p design.valid.sound delays (c.staging_makes_a_net.ensures p design.valid design.widths) in
    let there = number_there (plan_of p delays) plan m lt in
    let at = there.1 ∙ ap (number_of (plan_of p delays)) e in
    ap (λ n. length (entrances (net_under p delays) n)) at
    ∙ as_many_lanes p delays plan (λ n. c.queues_stand_in_order.ensures.to (net_under p delays) n (c.networks_fit.ensures.network (plan_of p delays) plan)) v
    (subst (IsThere (plan_of p delays)) e there.0)

pub returns-clause-lanes : goal.returns-clause-lanes
returns-clause-lanes c = λ p delays rows params inputs m v lane k design lt e below.
    let plan : IsPlan (plan_of p delays) = plan_is p design.valid.sound delays (c.staging_makes_a_net.ensures p design.valid design.widths) in
    let there = number_there (plan_of p delays) plan m lt in
    let at = there.1 ∙ ap (number_of (plan_of p delays)) e in
    ap (λ n. stream p rows params inputs delays (slice_index (entrances (net_under p delays) n) lane) k) at
    ∙ lane_carries p delays plan (λ n. c.queues_stand_in_order.ensures.to (net_under p delays) n (c.networks_fit.ensures.network (plan_of p delays) plan)) v
    (subst (IsThere (plan_of p delays)) e there.0) rows params inputs lane k below

pub returns-clause-ports : goal.returns-clause-ports
returns-clause-ports c = λ p delays rows params inputs m v k design lt e.
    let plan : IsPlan (plan_of p delays) = plan_is p design.valid.sound delays (c.staging_makes_a_net.ensures p design.valid design.widths) in
    let there = number_there (plan_of p delays) plan m lt in
    let at = there.1 ∙ ap (number_of (plan_of p delays)) e in
    ap (λ n. port_items (net_under p delays) (stream p rows params inputs delays) n k) at
    ∙ lanes_held p delays plan (λ n. c.queues_stand_in_order.ensures.to (net_under p delays) n (c.networks_fit.ensures.network (plan_of p delays) plan)) v
    (subst (IsThere (plan_of p delays)) e there.0) rows params inputs k

pub returns-clause-array : goal.returns-clause-array
returns-clause-array c = λ p delays rows params inputs m v design lt e.
    let plan : IsPlan (plan_of p delays) = plan_is p design.valid.sound delays (c.staging_makes_a_net.ensures p design.valid design.widths) in
    let there = number_there (plan_of p delays) plan m lt in
    sink_array p design.valid.sound delays rows params inputs v (subst (IsThere (plan_of p delays)) e there.0)
