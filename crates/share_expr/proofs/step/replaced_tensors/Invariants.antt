use Rattle.std.proofs.Common.{◌≡◌, map, take}
use Rattle.soda_ir.specs.Program.{plain_tensor}
use Rattle.soda_ir.specs.Tree.{formula_of}
use Rattle.share_shape.specs.Procedure.{replaced_in}
use Rattle.share_expr.proofs.step.replaced_tensors.Given as goal

abbrev pub invariant-loop-tensor : goal.invariant-loop-tensor
invariant-loop-tensor l =
    map plain_tensor l.made.items ≡ map (replaced_in l.at (formula_of l.compound)) (map plain_tensor (take l.tensor-index l.tensors))
