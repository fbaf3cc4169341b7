use Rattle.std.proofs.Common.{arith}
use Rattle.share_shape.specs.machine.Marks.{tensor_marks}
use Rattle.share_shape.proofs.Search.{total_step}
use Rattle.share_shape.proofs.table.counted.Goals as goal

pub loop-tensor-preserved : goal.loop-tensor-preserved
loop-tensor-preserved c =
    λ q. omega (arith, total_step (tensor_marks q) c.args.tensors.now c.loop-tensor.tensor-index c.tensor-item.result c.loop-tensor-test.true c.tensor-item.is, c.loop-tensor.invariant q, c.in_ok-tally_tensor.ensures q)
