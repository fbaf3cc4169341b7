use Rattle.std.proofs.Common.{length}
use Rattle.run_rows.proofs.tests.rows.+are.Given as goal

abbrev pub decreases-are : goal.decreases-are
decreases-are l = length l.arrays.now
