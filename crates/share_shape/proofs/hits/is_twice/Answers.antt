use Rattle.soda_ir.specs.Tree.{formula_of}
use Rattle.share_shape.proofs.Search.{counted_on, found_twice}
use Rattle.share_shape.proofs.hits.is_twice.Goals as goal

pub returns-then-many-eq2 : goal.returns-then-many-eq2
returns-then-many-eq2 c =
    found_twice (formula_of c.args.compound.now) c.args.tensors.now c.loop-tensor.tensor-index c.tensor-item.result c.loop-tensor-test.true c.tensor-item.is c.loop-tensor.many c.tensor_hits.result c.added-many.result c.loop-tensor.invariant.0 c.tensor_hits.ensures.value c.added-many.ensures.value c.if-many-eq2.true

pub loop-tensor-preserved : goal.loop-tensor-preserved
loop-tensor-preserved c =
    counted_on (formula_of c.args.compound.now) c.args.tensors.now c.loop-tensor.tensor-index c.tensor-item.result c.loop-tensor-test.true c.tensor-item.is c.loop-tensor.many c.tensor_hits.result c.added-many.result c.loop-tensor.invariant.0 c.tensor_hits.ensures.value c.added-many.ensures.value c.if-many-eq2.false
