use Rattle.std.proofs.Common.{◌≡◌, ◌≤◌}
use Rattle.soda_ir.specs.Counts.{output_number, tensor_reads}
use Rattle.soda_ir.specs.Points.{listed}
use Rattle.soda_ir.specs.Program.{plain}
use Rattle.soda_ir.proofs.reads.all_reads.Given as goal

abbrev pub invariant-loop-tensor : goal.invariant-loop-tensor
invariant-loop-tensor l = record {
  reads : l.all.items ≡ listed (tensor_reads (plain l.parts)) l.tensor;
  number : l.number ≡ output_number (plain l.parts) l.tensor;
  few : l.number ≤ l.tensor;
}
