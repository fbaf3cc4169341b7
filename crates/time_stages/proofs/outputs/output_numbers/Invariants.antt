use Rattle.std.proofs.Common.{◌≡◌, map, take}
use Rattle.soda_ir.specs.Program.{outputs_from, plain_tensor}
use Rattle.time_stages.proofs.outputs.output_numbers.Given as goal

abbrev pub invariant-loop-number : goal.invariant-loop-number
invariant-loop-number l = l.numbers.items ≡ outputs_from 0 (map plain_tensor (take l.number l.tensors))
