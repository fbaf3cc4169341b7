use Rattle.std.proofs.Common.{length}
use Rattle.soda_print.proofs.text.+add_extents.Given as goal

abbrev pub decreases-add_extents : goal.decreases-add_extents
decreases-add_extents l = length l.extents.now
