use Rattle.std.proofs.Common.{◌≡◌}
use Rattle.plan_rows.proofs.tests.networks.rounds.Given as goal

abbrev pub invariant-loop-round : goal.invariant-loop-round
invariant-loop-round l = l.counts.network ≡ l.net
