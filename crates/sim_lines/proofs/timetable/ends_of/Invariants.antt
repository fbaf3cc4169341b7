use Rattle.std.proofs.Common.{◌≡◌}
use Rattle.sim_lines.specs.machine.Ends.{ends_before}
use Rattle.sim_lines.proofs.timetable.ends_of.Given as goal

abbrev pub invariant-loop-number : goal.invariant-loop-number
invariant-loop-number l = l.ends.items ≡ ends_before l.staged l.modules l.number
