use Rattle.std.proofs.Common.{◌≡◌, Decides, sym, ◌∙◌}
use Rattle.std.proofs.lemmas.Slice.Eq.{slice_eq-Decides}
use Rattle.soda_ir.proofs.Sizes.{same_type}
use Rattle.soda_ir.proofs.valid.outputs_fit.Goals as goal

pub returns : goal.returns
returns c =
    let d : Decides c.eq.result (c.as_slice.result.now ≡ c.as_slice-2.result.now) = slice_eq-Decides same_type _ _ _ c.eq.ensures in
    let first = c.as_slice.ensures.value ∙ c.in_ok-inputs.ensures in
    let second = c.as_slice-2.ensures.value ∙ c.in_ok-outputs.ensures in
    (λ e. sym first ∙ d.0 e ∙ second, λ e. d.1 (first ∙ e ∙ sym second))
