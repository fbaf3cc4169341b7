use Rattle.std.proofs.Common.{◌<◌, length, slice_index_or, ap, sym, ◌∙◌, map}
use Rattle.std.proofs.lemmas.List.{get_or-map, length-map}
use Rattle.soda_words.specs.IntType.{IntType, int32}
use Rattle.soda_ir.specs.declared.program.Tensor.{Tensor}
use Rattle.soda_ir.specs.Program.{plain_tensor, PlainTensor}
use Rattle.time_stages.proofs.nets.width_of.Goals as goal

pub returns-clause-value : goal.returns-clause-value
returns-clause-value c =
    let items = c.args.parts.now.tensors in
    let here = c.index-as_slice-tensor.result in
    let below : c.args.tensor < length (map plain_tensor items) = simp length-map c.requires in
    c.bits.ensures.value
    ∙ ap (λ (t : IntType). t.bits) (ap (λ (t : Tensor). t.ty) (ap (λ xs. slice_index_or xs c.args.tensor here) c.as_slice.ensures)
    ∙ sym (get_or-map (λ (t : PlainTensor). t.ty) (map plain_tensor items) c.args.tensor (plain_tensor here) int32 below
    ∙ ap (λ (t : PlainTensor). t.ty) (get_or-map plain_tensor items c.args.tensor here (plain_tensor here) c.requires)))
