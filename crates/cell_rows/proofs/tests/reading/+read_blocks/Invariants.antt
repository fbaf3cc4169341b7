use Rattle.std.proofs.Common.{length}
use Rattle.cell_rows.proofs.tests.reading.+read_blocks.Given as goal

abbrev pub decreases-read_blocks : goal.decreases-read_blocks
decreases-read_blocks l = length l.out.now
