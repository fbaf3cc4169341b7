use Rattle.std.proofs.Common.{◌≡◌, ◌&&◌, not, true, false, None, slice_index_or}
use Rattle.soda_ir.specs.Counts.{tensor_is}
use Rattle.soda_ir.specs.Formula.{by_formula, every}
use Rattle.soda_ir.specs.Program.{plain}
use Rattle.time_stages.specs.Placing.{first_below}
use Rattle.time_stages.proofs.placing.next_tensor.Given as goal

abbrev pub invariant-loop-tensor : goal.invariant-loop-tensor
invariant-loop-tensor l =
    first_below (λ x. not (slice_index_or l.marks x false) && tensor_is (λ t. by_formula t.formula true (every (λ y o. slice_index_or l.marks y false))) (plain l.parts) x) l.tensor ≡ None
