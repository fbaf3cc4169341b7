use Rattle.std.proofs.Common.{◌≡◌, length, map, take}
use Rattle.std.specs.Prelude.{neg_ℤ}
use Rattle.soda_eval.specs.Points.{moved}
use Rattle.share_shape.proofs.cells.difference.Given as goal

abbrev pub invariant-loop-i : goal.invariant-loop-i
invariant-loop-i l = (l.made.items ≡ moved l.offset (map neg_ℤ (take l.i l.first))) × (length l.made.items ≡ l.i)
