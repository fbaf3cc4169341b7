use Rattle.std.proofs.Common.{length}
use Rattle.compute_modules.proofs.side.+keep.Given as goal

abbrev pub decreases-keep : goal.decreases-keep
decreases-keep l = length l.sides.now
