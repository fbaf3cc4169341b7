use Rattle.std.proofs.Common.{◌≡◌, ℕ, map, min, nat_eq, take, unwrap_or}
use Rattle.std.specs.HashMap.{get}
use Rattle.soda_ir.specs.Program.{plain_tensor}
use Rattle.share_shape.specs.Counts.{total}
use Rattle.share_shape.specs.machine.Marks.{tensor_marks}
use Rattle.share_shape.proofs.table.counted.Given as goal

abbrev pub invariant-loop-tensor : goal.invariant-loop-tensor
invariant-loop-tensor l =
    (q : ℕ) → min 2 (unwrap_or (get nat_eq l.counts q) 0) ≡ min 2 (total (tensor_marks q) (map plain_tensor (take l.tensor-index l.tensors)))
