use Rattle.soda_ir.specs.Program.{plain}
use Rattle.soda_eval.specs.Runs.{run_of}
use Rattle.time_stages.specs.Margins.{AreMade}
use Rattle.time_stages.specs.Placing.{placing_order}
use Rattle.soda_run.specs.pieces.Filled.{AreFilled}
use Rattle.soda_run.proofs.iterations.run_all.Given as goal

abbrev pub invariant-loop-done : goal.invariant-loop-done
invariant-loop-done l = record {
  margins : AreMade (plain l.program) l.done l.last.items;
  filled : AreFilled (plain l.program) l.rows (run_of (plain l.program) l.rows l.params l.inputs l.done) l.params (placing_order (plain l.program)) l.arrays;
}
