use Rattle.std.proofs.Common.{length}
use Rattle.time_stages.proofs.outputs.+nth_output.Given as goal

abbrev pub decreases-nth_output : goal.decreases-nth_output
decreases-nth_output l = length l.tensors.now
