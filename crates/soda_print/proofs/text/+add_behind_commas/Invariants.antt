use Rattle.std.proofs.Common.{length}
use Rattle.soda_print.proofs.text.+add_behind_commas.Given as goal

abbrev pub decreases-add_behind_commas : goal.decreases-add_behind_commas
decreases-add_behind_commas l = length l.components.now
