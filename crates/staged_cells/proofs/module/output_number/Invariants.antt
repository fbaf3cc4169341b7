use Rattle.std.proofs.Common.{◌≡◌, ◌≤◌}
use Rattle.soda_ir.specs.Counts.{output_number}
use Rattle.soda_ir.specs.Program.{plain}
use Rattle.staged_cells.proofs.module.output_number.Given as goal

abbrev pub invariant-loop-before : goal.invariant-loop-before
invariant-loop-before l = record {
  value : l.number ≡ output_number (plain l.parts) l.before;
  most : l.number ≤ l.before;
}
