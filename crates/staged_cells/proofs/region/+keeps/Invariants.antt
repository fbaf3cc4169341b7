use Rattle.std.proofs.Common.{length}
use Rattle.staged_cells.proofs.region.+keeps.Given as goal

abbrev pub decreases-keeps : goal.decreases-keeps
decreases-keeps l = length l.extents.now
