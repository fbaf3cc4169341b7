use Rattle.std.proofs.Common.{◌≡◌}
use Rattle.plan_rows.proofs.tests.networks.round.Given as goal

abbrev pub invariant-loop-module : goal.invariant-loop-module
invariant-loop-module l = l.counts.network ≡ l.net
