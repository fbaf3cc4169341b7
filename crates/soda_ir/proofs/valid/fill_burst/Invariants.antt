use Rattle.std.proofs.Common.{◌≡◌, true, take}
use Rattle.std.specs.List.{list_all}
use Rattle.soda_ir.specs.Program.{plain_tensor}
use Rattle.soda_ir.specs.Valid.{fills_burst}
use Rattle.soda_ir.proofs.valid.fill_burst.Given as goal

abbrev pub invariant-loop-tensor : goal.invariant-loop-tensor
invariant-loop-tensor l = list_all (λ t. fills_burst l.width (plain_tensor t)) (take l.tensor-index l.tensors) ≡ true
