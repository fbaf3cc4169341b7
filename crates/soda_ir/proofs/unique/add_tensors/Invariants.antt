use Rattle.std.proofs.Common.{◌≡◌, ◌++◌, true, map, take}
use Rattle.soda_ir.specs.Program.{plain_tensor}
use Rattle.soda_ir.specs.Valid.{are_free_names}
use Rattle.soda_ir.proofs.unique.add_tensors.Given as goal

abbrev pub invariant-loop-tensor : goal.invariant-loop-tensor
invariant-loop-tensor l = record {
  free : are_free_names l.table ≡ true;
  named : l.table ≡ l.initial.table ++ map (λ t. t.name) (map plain_tensor (take l.tensor-index l.tensors));
}
