use Rattle.std.proofs.Common.{◌≡◌}
use Rattle.share_expr.proofs.Passed.{far_from}
use Rattle.share_expr.proofs.limits.far_offset_in.Given as goal

abbrev pub invariant-loop-tensor : goal.invariant-loop-tensor
invariant-loop-tensor l = far_from l.tensors l.tensor-index ≡ far_from l.tensors 0
