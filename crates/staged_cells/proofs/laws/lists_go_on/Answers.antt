use Rattle.std.proofs.Common.{◌∙◌, sym, ap, subst}
use Rattle.net_ir.specs.Nets.{entrances}
use Rattle.net_shape.specs.Modules.{IsThere, number_of}
use Rattle.net_shape.specs.Plans.{IsPlan}
use Rattle.net_build.specs.Planned.{net_under, plan_of}
use Rattle.staged_cells.specs.Sends.{AreLonger, IsPrefix, handed_list}
use Rattle.staged_cells.proofs.Designs.{plan_is}
use Rattle.staged_cells.proofs.Grows.{handed_grows, sent_grows}
use Rattle.staged_cells.proofs.Handed.{number_there}
use Rattle.staged_cells.proofs.laws.lists_go_on.Goals as goal

pub returns-clause-sent : goal.returns-clause-sent
returns-clause-sent c = sent_grows

pub returns-clause-handed : goal.returns-clause-handed
returns-clause-handed c = λ p rows delays firings taken more m v delay design lt e longer.
    let plan : IsPlan (plan_of p delays) = plan_is p design.valid.sound delays (c.staging_makes_a_net.ensures p design.valid design.widths) in
    let there = number_there (plan_of p delays) plan m lt in
    let at = there.1 ∙ ap (number_of (plan_of p delays)) e in
    subst (λ n. IsPrefix (handed_list p rows delays firings taken n delay) (handed_list p rows delays firings more n delay)) (sym at)
    (handed_grows p delays plan (λ n. c.queues_stand_in_order.ensures.to (net_under p delays) n (c.networks_fit.ensures.network (plan_of p delays) plan)) v
    (subst (IsThere (plan_of p delays)) e there.0)
    rows firings taken more delay (subst (λ n. AreLonger (entrances (net_under p delays) n) taken more) at longer))
