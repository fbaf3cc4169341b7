use Rattle.std.proofs.Common.{◌≡◌, true, false, slice_index_or}
use Rattle.soda_ir.specs.Formula.{by_formula, every}
use Rattle.soda_ir.specs.Counts.{tensor_is}
use Rattle.soda_ir.specs.Points.{listed}
use Rattle.soda_ir.specs.Program.{plain}
use Rattle.soda_ir.proofs.placing.next_round.Given as goal

abbrev pub invariant-loop-tensor : goal.invariant-loop-tensor
invariant-loop-tensor l =
    l.next.items ≡ listed (λ x. tensor_is (λ t. by_formula t.formula true (every (λ y o. slice_index_or l.marks y false))) (plain l.parts) x) l.tensor
