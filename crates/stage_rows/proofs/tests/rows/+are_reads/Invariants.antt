use Rattle.std.proofs.Common.{length}
use Rattle.stage_rows.proofs.tests.rows.+are_reads.Given as goal

abbrev pub decreases-are_reads : goal.decreases-are_reads
decreases-are_reads l = length l.reads.now
