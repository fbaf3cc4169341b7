use Rattle.std.proofs.Common.{◌≡◌, not, true, take}
use Rattle.std.specs.List.{list_all}
use Rattle.soda_ir.specs.Counts.{is_input_role}
use Rattle.soda_ir.proofs.valid.has_no_input.Given as goal

abbrev pub invariant-loop-tensor : goal.invariant-loop-tensor
invariant-loop-tensor l = list_all (λ u. not (is_input_role u.role)) (take l.tensor-index l.tensors) ≡ true
