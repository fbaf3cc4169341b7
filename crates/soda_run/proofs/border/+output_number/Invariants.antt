use Rattle.std.proofs.Common.{length}
use Rattle.soda_run.proofs.border.+output_number.Given as goal

abbrev pub decreases-output_number : goal.decreases-output_number
decreases-output_number l = length l.tensors.now
