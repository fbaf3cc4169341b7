use Rattle.std.proofs.Common.{◌≡◌, ◌<◌, map, take}
use Rattle.soda_ir.specs.Program.{plain_tensor}
use Rattle.soda_ir.specs.Tree.{formula_of}
use Rattle.share_shape.specs.Counts.{tensor_hits, total}
use Rattle.share_shape.proofs.hits.is_twice.Given as goal

abbrev pub invariant-loop-tensor : goal.invariant-loop-tensor
invariant-loop-tensor l =
    (l.many ≡ total (tensor_hits (formula_of l.compound)) (map plain_tensor (take l.tensor-index l.tensors))) × (l.many < 2)
