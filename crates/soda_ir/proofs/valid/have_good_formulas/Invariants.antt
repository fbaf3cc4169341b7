use Rattle.std.proofs.Common.{◌≡◌, ◌&&◌, true, take}
use Rattle.std.specs.List.{list_all}
use Rattle.soda_ir.specs.Program.{plain, plain_tensor}
use Rattle.soda_ir.specs.Valid.{has_formula_if_no_input, has_good_uses, is_small}
use Rattle.soda_ir.proofs.valid.have_good_formulas.Given as goal

abbrev pub invariant-loop-tensor : goal.invariant-loop-tensor
invariant-loop-tensor l = list_all (λ t. has_formula_if_no_input (plain_tensor t) && has_good_uses (plain l.parts) (plain_tensor t) && is_small (plain l.parts) (plain_tensor t)) (take l.tensor-index l.parts.tensors) ≡ true
