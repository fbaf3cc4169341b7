use Rattle.std.proofs.Common.{refl, sym, subst, ap}
use Rattle.soda_ir.specs.Program.{PlainProgram, plain}
use Rattle.soda_ir.specs.declared.program.Parts.{Parts}
use Rattle.soda_parse.specs.Fails.{IfRefused as AreRefused}
use Rattle.soda_parse.specs.Text.{Accepts}
use Rattle.soda_parse.proofs.CallerLemmas.{accepted_text}
use Rattle.soda_print.specs.Canonical.{canonical, canonical_lines}
use Rattle.std.proofs.Common.{◌≡◌, length, ◌∙◌, Err}
use Rattle.design_lines.specs.Lines.{IsWritten}
use Rattle.design_reader.proofs.Behind.{refused_more}
use Rattle.design_reader.proofs.programs.canonical_program.Goals as goal

pub returns-in-Ok-clause-refused : goal.returns-in-Ok-clause-refused
returns-in-Ok-clause-refused c =
    let q = plain c.in-Ok.program in
    let text = c.args.text.now in
    refused_more c.if_canonical.result (λ n. (n ≡ 2) × (canonical q ≡ text → length (canonical_lines q) ≡ c.args.lines → ⊥))
    (λ n. (n ≡ 2) × ((p : PlainProgram) → IsWritten p → canonical p ≡ text → length (canonical_lines p) ≡ c.args.lines → ⊥))
    (λ n h. (
      h.0,
      λ p w e m.
          let same : p ≡ q = c.in-Ok.ensures.only p (accepted_text text p w.valid w.sized (sym e)) in
          h.1 (ap canonical (sym same) ∙ e) (ap (λ x. length (canonical_lines x)) (sym same) ∙ m),
    ))
    c.if_canonical.ensures.refused

pub returns-in-Err-Refused-clause-refused : goal.returns-in-Err-Refused-clause-refused
returns-in-Err-Refused-clause-refused c =
    let text = c.args.text.now in
    let none : (q : PlainProgram) → Accepts 67108864 text q → ⊥ =
    subst (λ f. AreRefused {A = Parts} (Err f) (λ r. (q : PlainProgram) → Accepts 67108864 text q → ⊥)) c.in-Err-Refused.field-0-is c.in-Err-Refused.ensures.not_accepted in
    (refl, λ p w e m. none p (accepted_text text p w.valid w.sized (sym e)))
