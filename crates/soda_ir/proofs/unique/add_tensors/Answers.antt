use Rattle.std.proofs.Common.{◌++◌, ◌+◌, [], ◌∷◌, ◌∙◌, ap, arith, map, take, drop}
use Rattle.soda_ir.specs.Program.{plain_tensor}
use Rattle.soda_ir.specs.Valid.{are_free_names}
use Rattle.soda_ir.proofs.FreeNames.{tensor_names_split, spoiled}
use Rattle.soda_ir.proofs.unique.add_tensors.Goals as goal

pub returns-then-not-free : goal.returns-then-not-free
returns-then-not-free c =
    let i = c.loop-tensor.tensor-index in
    spoiled c.args.table.now (map (λ t. t.name) (map plain_tensor (take i c.args.tensors.now))) (map (λ t. t.name) (map plain_tensor (drop (i + 1) c.args.tensors.now))) _ c.loop-tensor.table c.tensor-item.result.name c.in_ok-free.free c.loop-tensor.invariant.named (
    tensor_names_split c.args.tensors.now i c.tensor-item.result (omega arith) c.tensor-item.is
    ) (c.in_ok-free.ensures.free ∙ ap (λ w. are_free_names (c.loop-tensor.table ++ w ∷ [])) c.as_slice.ensures) c.if-not-free.true
