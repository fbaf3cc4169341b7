use Rattle.std.proofs.Common.{◌≡◌, take, length}
use Rattle.share_expr.proofs.copies.copy_offset.Given as goal

abbrev pub invariant-loop-i : goal.invariant-loop-i
invariant-loop-i l = (l.copy.items ≡ take l.i l.offset) × (length l.copy.items ≡ l.i)
