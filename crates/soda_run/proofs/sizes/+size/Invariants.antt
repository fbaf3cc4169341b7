use Rattle.std.proofs.Common.{length}
use Rattle.soda_run.proofs.sizes.+size.Given as goal

abbrev pub decreases-size : goal.decreases-size
decreases-size l = length l.extents.now
