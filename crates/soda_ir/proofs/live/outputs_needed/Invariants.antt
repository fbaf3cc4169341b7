use Rattle.std.proofs.Common.{◌≡◌, ◌≤◌, ◌&&◌, false, slice_index_or}
use Rattle.soda_ir.specs.Counts.{is_output, output_number}
use Rattle.soda_ir.specs.Points.{listed}
use Rattle.soda_ir.specs.Program.{plain}
use Rattle.soda_ir.proofs.live.outputs_needed.Given as goal

abbrev pub invariant-loop-x : goal.invariant-loop-x
invariant-loop-x l = record {
  marks : l.marks.items ≡ listed (λ x. is_output (plain l.parts) x && slice_index_or l.needed (output_number (plain l.parts) x) false) l.x;
  number : l.number ≡ output_number (plain l.parts) l.x;
  few : l.number ≤ l.x;
}
