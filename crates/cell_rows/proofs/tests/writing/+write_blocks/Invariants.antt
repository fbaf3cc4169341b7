use Rattle.std.proofs.Common.{length}
use Rattle.cell_rows.proofs.tests.writing.+write_blocks.Given as goal

abbrev pub decreases-write_blocks : goal.decreases-write_blocks
decreases-write_blocks l = length l.cells.now
