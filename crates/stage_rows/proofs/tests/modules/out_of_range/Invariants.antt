use Rattle.std.proofs.Common.{◌≡◌, length}
use Rattle.stage_rows.proofs.tests.modules.out_of_range.Given as goal

abbrev pub invariant-loop-port : goal.invariant-loop-port
invariant-loop-port l = length l.held.items ≡ l.port-index
