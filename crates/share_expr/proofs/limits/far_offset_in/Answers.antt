use Rattle.std.proofs.Common.{sym}
use Rattle.share_expr.proofs.Passed.{far_here, near_here}
use Rattle.share_expr.proofs.limits.far_offset_in.Goals as goal

pub returns-in-Some : goal.returns-in-Some
returns-in-Some c =
    sym (far_here c.args.tensors.now c.loop-tensor.tensor-index c.tensor-item.result c.loop-tensor-test.true c.tensor-item.is c.in-Some.magnitude (sym c.in-Some.ensures) c.loop-tensor.invariant)

pub loop-tensor-preserved : goal.loop-tensor-preserved
loop-tensor-preserved c =
    near_here c.args.tensors.now c.loop-tensor.tensor-index c.tensor-item.result c.loop-tensor-test.true c.tensor-item.is (sym c.in_default.ensures) c.loop-tensor.invariant
