use Rattle.std.proofs.Common.{List, ℕ, ◌++◌, ap, ◌∙◌}
use Rattle.soda_ir.specs.Program.{plain}
use Rattle.soda_print.specs.Canonical.{ended}
use Rattle.design_lines.specs.PlanLines.{plan_lines}
use Rattle.plan_job.proofs.PlanLemmas.{plan_text_is}
use Rattle.plan_job.proofs.plan.text_of.Goals as goal

pub returns : goal.returns
returns c =
    let p = plain c.args.program.now in
    let flow = c.in_ok-delays.flow in
    plan_text_is p c.args.net.now.weights c.args.net.now.reads c.in_ok-delays.delays.items flow.hold flow.need c.in_ok-text.text.items
    c.add_plan_lines.new.text.items c.requires.weights c.requires.reads c.in_ok-delays.ensures.plan c.in_ok-delays.ensures.fits c.in_ok-text.ensures
    (c.in_ok-add_plan_lines.ensures ∙ ap (λ (ds : List ℕ). c.in_ok-text.text.items ++ ended (plan_lines p ds flow.hold flow.need)) c.deref.ensures.value)
