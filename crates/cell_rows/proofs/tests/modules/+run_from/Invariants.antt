use Rattle.std.proofs.Common.{◌-◌}
use Rattle.cell_rows.proofs.tests.modules.+run_from.Given as goal

abbrev pub decreases-run_from : goal.decreases-run_from
decreases-run_from l = l.firings - l.firing
