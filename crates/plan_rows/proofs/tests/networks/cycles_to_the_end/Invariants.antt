use Rattle.std.proofs.Common.{◌≡◌, ◌-◌}
use Rattle.net_ir.specs.CycleRun.{IsBetween}
use Rattle.plan_rows.proofs.tests.networks.cycles_to_the_end.Given as goal

abbrev pub invariant-loop-cycles : goal.invariant-loop-cycles
invariant-loop-cycles l = (l.counts.network ≡ l.net) × IsBetween l.counts.state

abbrev pub decreases-loop-cycles : goal.decreases-loop-cycles
decreases-loop-cycles l = 100 - l.cycles
