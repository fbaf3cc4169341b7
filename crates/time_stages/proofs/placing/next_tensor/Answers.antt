use Rattle.std.proofs.Common.{◌≡◌, ◌&&◌, ◌<◌, not, true, false, length, sym, ◌∙◌, ap, arith, slice_index_or}
use Rattle.std.proofs.lemmas.Bool.{and_from}
use Rattle.soda_ir.specs.Counts.{tensor_is}
use Rattle.soda_ir.specs.Formula.{by_formula, every}
use Rattle.soda_ir.specs.Program.{plain}
use Rattle.time_stages.proofs.Order.{first_found}
use Rattle.time_stages.proofs.placing.next_tensor.Goals as goal

pub returns-then-is_ready : goal.returns-then-is_ready
returns-then-is_ready c =
    let free : not (slice_index_or c.args.marks.now c.loop-tensor.tensor false) ≡ true = ap not (sym c.is_marked.ensures ∙ c.if-not-is_marked.true) in
    let ready : tensor_is (λ t. by_formula t.formula true (every (λ y o. slice_index_or c.args.marks.now y false))) (plain c.args.parts.now) c.loop-tensor.tensor ≡ true = sym c.is_ready.ensures ∙ c.if-is_ready.true in
    let within : c.loop-tensor.tensor < length c.args.parts.now.tensors = omega arith in
    sym (first_found (λ x. not (slice_index_or c.args.marks.now x false) && tensor_is (λ t. by_formula t.formula true (every (λ y o. slice_index_or c.args.marks.now y false))) (plain c.args.parts.now) x) (length c.args.parts.now.tensors) c.loop-tensor.tensor c.loop-tensor.invariant (and_from _ _ free ready) within)
