use Rattle.std.proofs.Common.{length}
use Rattle.flow_solve.specs.machine.Steps.{AreMarks}
use Rattle.flow_solve.proofs.search.search.Given as goal

-- the marks stay marks
abbrev pub invariant-loop-i : goal.invariant-loop-i
invariant-loop-i l = AreMarks (length l.hold) l.marks
