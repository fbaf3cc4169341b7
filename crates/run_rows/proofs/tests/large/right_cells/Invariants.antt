use Rattle.std.proofs.Common.{◌≤◌}
use Rattle.run_rows.proofs.tests.large.right_cells.Given as goal

abbrev pub invariant-loop-number : goal.invariant-loop-number
invariant-loop-number l = l.right ≤ l.number
