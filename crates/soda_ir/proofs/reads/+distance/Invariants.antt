use Rattle.std.proofs.Common.{length}
use Rattle.soda_ir.proofs.reads.+distance.Given as goal

abbrev pub decreases-distance : goal.decreases-distance
decreases-distance l = length l.offset.now
