use Rattle.std.proofs.Common.{length}
use Rattle.soda_ir.proofs.valid.+has_inputs_first.Given as goal

abbrev pub decreases-has_inputs_first : goal.decreases-has_inputs_first
decreases-has_inputs_first l = length l.tensors.now
