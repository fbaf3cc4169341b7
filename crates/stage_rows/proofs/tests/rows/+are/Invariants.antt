use Rattle.std.proofs.Common.{length}
use Rattle.stage_rows.proofs.tests.rows.+are.Given as goal

abbrev pub decreases-are : goal.decreases-are
decreases-are l = length l.tensors.now
