use Rattle.std.proofs.Common.{◌≡◌, pos, replicate, slice_index_or}
use Rattle.soda_ir.specs.Points.{listed}
use Rattle.soda_run.proofs.iterations.first_arrays.Given as goal

abbrev pub invariant-loop-tensor : goal.invariant-loop-tensor
invariant-loop-tensor l = l.arrays.items ≡ listed (λ x. slice_index_or l.inputs x (replicate l.cells (pos 0))) l.tensor
