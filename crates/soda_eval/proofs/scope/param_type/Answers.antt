use Rattle.std.proofs.Common.{◌<◌, length, slice_index_or, ap, sym, ◌∙◌, map}
use Rattle.std.proofs.lemmas.List.{get_or-map, length-map}
use Rattle.soda_words.specs.IntType.{int32}
use Rattle.soda_ir.specs.Program.{plain_param, PlainParam}
use Rattle.soda_eval.proofs.scope.param_type.Goals as goal

pub returns : goal.returns
returns c =
    let items = c.args.parts.now.params in
    let below : c.args.param < length (map plain_param items) = simp length-map c.requires in
    ap (λ x. x.ty) (ap (λ xs. slice_index_or xs c.args.param c.index-as_slice-param.result) c.as_slice.ensures)
    ∙ sym (get_or-map (λ (t : PlainParam). t.ty) (map plain_param items) c.args.param (plain_param c.index-as_slice-param.result) int32 below
    ∙ ap (λ (t : PlainParam). t.ty) (get_or-map plain_param items c.args.param c.index-as_slice-param.result (plain_param c.index-as_slice-param.result) c.requires))
