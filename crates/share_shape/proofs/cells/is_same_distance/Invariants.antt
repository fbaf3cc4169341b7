use Rattle.std.proofs.Common.{◌≡◌}
use Rattle.share_shape.proofs.Offsets.{same_from}
use Rattle.share_shape.proofs.cells.is_same_distance.Given as goal

abbrev pub invariant-loop-i : goal.invariant-loop-i
invariant-loop-i l = same_from l.a l.first l.b l.other l.i ≡ same_from l.a l.first l.b l.other 0
