use Rattle.std.proofs.Common.{◌≡◌, false, take}
use Rattle.std.specs.List.{list_any}
use Rattle.soda_ir.specs.Counts.{is_output_role}
use Rattle.soda_ir.proofs.valid.has_output.Given as goal

abbrev pub invariant-loop-tensor : goal.invariant-loop-tensor
invariant-loop-tensor l = list_any (λ t. is_output_role t.role) (take l.tensor-index l.tensors) ≡ false
