use Rattle.std.proofs.Common.{ℕ, List, ap, ◌∙◌, codes}
use Rattle.std.proofs.lemmas.Result.{on_ok_weaker}
use Rattle.soda_ir.specs.declared.program.Parts.{Parts}
use Rattle.soda_ir.specs.Program.{plain}
use Rattle.design_lines.specs.PlanLines.{plan_lines}
use Rattle.design_lines.specs.Lines.{program_lines}
use Rattle.module_text.proofs.Printed.{to_total}
use Rattle.module_text.proofs.printing.add_to_total.Goals as goal

pub returns-clause-adds : goal.returns-clause-adds
returns-clause-adds c =
    let d = c.args.design.now in
    let ds = c.delays.result.now in
    let hs = c.flow.result.now.hold in
    let ns = c.flow.result.now.need in
    on_ok_weaker c.add_plan_lines.result
    (λ e. to_total (codes "soda 1") c.args.text.now.items c.add_line.new.text.items c.add_program.new.text.items c.add_plan_lines.new.text.items
    _ _ _ _ c.requires.empty c.in_ok-add_line.ensures c.in_ok-add_program.ensures.adds e
    (ap (λ (x : Parts). program_lines (plain x)) c.program-program.ensures.value)
    (ap (λ (x : Parts). plan_lines (plain x) ds hs ns) c.program-program.ensures.value
    ∙ ap (λ (x : List ℕ). plan_lines (plain d.program) x hs ns) c.delays.ensures.value
    ∙ ap (λ (x : List ℕ). plan_lines (plain d.program) d.delays x ns) c.flow.ensures.hold
    ∙ ap (λ (x : List ℕ). plan_lines (plain d.program) d.delays d.hold x) c.flow.ensures.need))
    c.add_plan_lines.ensures
