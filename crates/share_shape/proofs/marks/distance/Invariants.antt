use Rattle.std.proofs.Common.{◌≡◌, take}
use Rattle.share_shape.specs.machine.Marks.{apart}
use Rattle.share_shape.proofs.marks.distance.Given as goal

abbrev pub invariant-loop-i : goal.invariant-loop-i
invariant-loop-i l = l.mark ≡ apart (take l.i l.from) l.to
