use Rattle.std.proofs.Common.{drop}
use Rattle.sim_lines.proofs.Cursor.{AreAmong}
use Rattle.sim_lines.proofs.marking.clear.Given as goal

-- the flags that are set are of the modules that are left
abbrev pub invariant-loop-entry : goal.invariant-loop-entry
invariant-loop-entry l = AreAmong (drop l.entry-index l.stalled) l.flags
