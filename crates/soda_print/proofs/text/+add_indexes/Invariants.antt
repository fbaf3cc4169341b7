use Rattle.std.proofs.Common.{length}
use Rattle.soda_print.proofs.text.+add_indexes.Given as goal

abbrev pub decreases-add_indexes : goal.decreases-add_indexes
decreases-add_indexes l = length l.indexes.now
