use Rattle.param_lines.proofs.Joins.{AreJoined}
use Rattle.param_lines.proofs.reading.join.Given as goal

abbrev pub invariant-loop-slot : goal.invariant-loop-slot
invariant-loop-slot l = AreJoined l.slot-index l.values.items l.slots
