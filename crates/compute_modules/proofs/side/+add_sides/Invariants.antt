use Rattle.std.proofs.Common.{length}
use Rattle.compute_modules.proofs.side.+add_sides.Given as goal

abbrev pub decreases-add_sides : goal.decreases-add_sides
decreases-add_sides l = length l.extents.now
