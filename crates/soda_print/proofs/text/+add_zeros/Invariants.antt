use Rattle.std.proofs.Common.{length}
use Rattle.soda_print.proofs.text.+add_zeros.Given as goal

abbrev pub decreases-add_zeros : goal.decreases-add_zeros
decreases-add_zeros l = length l.extents.now
