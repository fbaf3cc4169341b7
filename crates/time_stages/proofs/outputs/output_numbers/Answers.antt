use Rattle.std.proofs.Common.{arith}
use Rattle.time_stages.proofs.OutputNumbers.{outputs_more}
use Rattle.time_stages.proofs.outputs.output_numbers.Goals as goal

pub loop-number-preserved : goal.loop-number-preserved
loop-number-preserved c =
    outputs_more c.as_slice-tensors.result.now c.loop-number.number c.index-tensors-number.result c.loop-number.numbers.items c.add_output.new.numbers.items (omega arith) c.index-tensors-number.is c.loop-number.invariant c.in_ok-add_output.ensures
