use Rattle.std.proofs.Common.{length}
use Rattle.param_lines.proofs.Numbers.{AreRead}
use Rattle.param_lines.proofs.row.read_numbers.Given as goal

abbrev pub invariant-loop-word : goal.invariant-loop-word
invariant-loop-word l = AreRead l.ty l.values.items l.rest l.text

abbrev pub decreases-loop-word : goal.decreases-loop-word
decreases-loop-word l = length l.rest
