use Rattle.std.proofs.Common.{◌≡◌, ◌++◌, map, take}
use Rattle.soda_ir.specs.Program.{plain, plain_tensor}
use Rattle.soda_print.specs.Canonical.{ended, tensor_line}
use Rattle.soda_print.specs.Sized.{AreSizedTensors}
use Rattle.soda_print.proofs.lines.add_tensors.Given as goal

abbrev pub invariant-loop-tensor : goal.invariant-loop-tensor
invariant-loop-tensor l = record {
  adds : l.text.items ≡ l.initial.text.items ++ ended (map (tensor_line (plain l.parts)) (map plain_tensor (take l.tensor-index l.tensors)));
  sized : AreSizedTensors (map plain_tensor (take l.tensor-index l.tensors));
}
