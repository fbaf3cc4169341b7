use Rattle.std.proofs.Common.{◌≡◌}
use Rattle.sim_rows.proofs.tests.flags.holds.Given as goal

abbrev pub invariant-loop-wanted : goal.invariant-loop-wanted
invariant-loop-wanted l = l.flags.cycle ≡ l.wanted-index
