use Rattle.std.proofs.Common.{length}
use Rattle.soda_run.proofs.fill.+keeps.Given as goal

abbrev pub decreases-keeps : goal.decreases-keeps
decreases-keeps l = length l.extents.now
