use Rattle.std.proofs.Common.{length}
use Rattle.flow_solve.specs.machine.Steps.{AreMarks}
use Rattle.flow_solve.proofs.search.go_on_from.Given as goal

-- the marks stay marks
abbrev pub invariant-loop-step : goal.invariant-loop-step
invariant-loop-step l = AreMarks (length l.hold) l.marks
