use Rattle.std.proofs.Common.{◌≡◌, map, take}
use Rattle.soda_ir.specs.Program.{plain_tensor}
use Rattle.sim_lines.proofs.reading.names_of.Given as goal

abbrev pub invariant-loop-tensor : goal.invariant-loop-tensor
invariant-loop-tensor l = l.names ≡ map (λ t. t.name) (map plain_tensor (take l.tensor-index l.tensors))
