-- The design that is made of a plan, and its text.
use Rattle.std.proofs.Common.{◌≡◌, ℕ, List, ◌++◌, sym, ap, subst, ◌∙◌, Result, IfOk, OnOk}
use Rattle.design_lines.specs.PlanLines.{plan_lines}
use Rattle.design_reader.specs.Refused.{IsRefusedBehind}
use Rattle.design_reader.specs.declared.fail.TextFail.{TextFail}
use Rattle.design_reader.specs.machine.Pieces.{IsDesignBehind, IsEndStop, IsPlanTold}
use Rattle.design_reader.proofs.Behind.{at_end, plan_text, to_total, told_design}
use Rattle.module_text.specs.Designs.{Held, IsDesign, plain_design}
use Rattle.module_text.specs.Texts.{lines_behind, version_1}
use Rattle.soda_ir.specs.Program.{plain}
use Rattle.soda_ir.specs.declared.program.Parts.{Parts}
use Rattle.soda_print.specs.Canonical.{ended}

-- a design that was made of a plan, where its network is told
pub made_design : (r : Result Held TextFail) (design : Held) (program : Parts) (text ds hold need rest : List ℕ) (lines : ℕ)
    → IsPlanTold (plain program) text ds hold need rest lines → design ≡ record { program = program; delays = ds; hold = hold; need = need } → IsDesign (plain_design design)
    → IfOk r (λ d. d ≡ design) → OnOk r (rest ≡ ended (lines_behind version_1 (plain_design design))) → IfOk r (λ d. IsDesignBehind text (plain_design d))
made_design r design program text ds hold need rest lines h made is same behind =
    told_design r design text rest same behind is
    (plan_text (plain program) text ds hold need rest lines h
    ∙ ap (λ (d : Held). ended (plan_lines (plain d.program) d.delays d.hold d.need) ++ rest) (sym made))

-- and where it is not
pub at_made_end : (design : Held) (program : Parts) (text ds hold need rest : List ℕ) (lines line : ℕ) → IsPlanTold (plain program) text ds hold need rest lines
    → design ≡ record { program = program; delays = ds; hold = hold; need = need } → IsDesign (plain_design design)
    → IsEndStop (lines_behind version_1 (plain_design design)) rest lines line → IsRefusedBehind version_1 (plain program) text line
at_made_end design program text ds hold need rest lines line h made is s =
    let p = plain program in
    at_end version_1 p text ds hold need rest lines line (subst (λ (d : Held). IsDesign (plain_design d)) made is)
    (plan_text p text ds hold need rest lines h) (h.number ∙ to_total version_1 p ds hold need h.tensors.all h.reads.all)
    (subst (λ (d : Held). IsEndStop (lines_behind version_1 (plain_design d)) rest lines line) made s)
