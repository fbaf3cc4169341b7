use Rattle.std.proofs.Common.{◌≡◌}
use Rattle.sim_rows.proofs.tests.flags.first_other.Given as goal

abbrev pub invariant-loop-cycle : goal.invariant-loop-cycle
invariant-loop-cycle l = l.flags.cycle ≡ l.cycle
