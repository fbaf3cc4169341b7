use Rattle.std.proofs.Common.{◌≡◌, map, take}
use Rattle.soda_ir.specs.Program.{plain_tensor}
use Rattle.share_expr.proofs.copies.copy_tensors.Given as goal

abbrev pub invariant-loop-tensor : goal.invariant-loop-tensor
invariant-loop-tensor l = map plain_tensor l.copies.items ≡ map plain_tensor (take l.tensor-index l.tensors)
