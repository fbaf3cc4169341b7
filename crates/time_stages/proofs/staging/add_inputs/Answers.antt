use Rattle.std.proofs.Common.{◌≡◌, ◌++◌, length, sym, ◌∙◌, ap}
use Rattle.std.proofs.lemmas.List.{length-map}
use Rattle.std.proofs.lemmas.Result.{on_ok_weaker}
use Rattle.soda_ir.specs.Points.{listed}
use Rattle.soda_ir.specs.Program.{plain, plain_tensor}
use Rattle.time_stages.proofs.StagedLists.{inputs_are, numbers_below, places_within}
use Rattle.time_stages.proofs.staging.add_inputs.Goals as goal

pub add_marked-requires : goal.add_marked-requires
add_marked-requires c =
    let p = plain c.args.parts.now in
    let many : length c.args.parts.now.tensors ≡ length p.tensors = sym (length-map c.args.parts.now.tensors plain_tensor) in
    places_within p 0 c.deref.result.now (listed (λ x. x) (length p.tensors)) c.args.margins.now c.requires.made (c.deref.ensures.value ∙ c.in_ok-numbers.ensures ∙ ap (listed (λ x. x)) (c.len.ensures ∙ many)) (numbers_below (length p.tensors))

pub returns : goal.returns
returns c =
    let p = plain c.args.parts.now in
    let many : length c.args.parts.now.tensors ≡ length p.tensors = sym (length-map c.args.parts.now.tensors plain_tensor) in
    on_ok_weaker c.add_marked.result (λ e. e ∙ ap (λ xs. c.args.tensors.now.items ++ xs) (inputs_are p (length c.args.parts.now.tensors) c.args.margins.now c.deref-2.result.now c.deref.result.now many c.requires.made
    (c.deref.ensures.value ∙ c.in_ok-numbers.ensures ∙ ap (listed (λ x. x)) c.len.ensures) (c.deref-2.ensures.value ∙ c.in_ok-marks.ensures))) c.add_marked.ensures
