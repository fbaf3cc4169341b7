use Rattle.std.proofs.Common.{◌≡◌, ℕ, ◌+◌, ◌<◌, length, pos, slice_index_or}
use Rattle.soda_ir.specs.Program.{plain}
use Rattle.soda_eval.specs.Runs.{cells_at}
use Rattle.soda_run.specs.pieces.Filled.{made}
use Rattle.soda_run.proofs.fill.Target.fill_line.Given as goal

abbrev pub invariant-loop-number : goal.invariant-loop-number
invariant-loop-number l = record {
  whole : length l.cells ≡ cells_at (plain l.self.program.now) l.self.rows;
  done : (i : ℕ) → i < l.start + l.number → slice_index_or l.cells i (pos 0) ≡ made (plain l.self.program.now) l.self.rows l.self.arrays.now l.self.params.now l.self.tensor l.self.margins.now l.self.outside.now i;
}
