use Rattle.std.proofs.Common.{take, []}
use Rattle.soda_ir.specs.Program.{plain}
use Rattle.soda_eval.specs.Arrays.{Given}
use Rattle.soda_run.specs.pieces.Filled.{AreFilled, Begins}
use Rattle.soda_run.proofs.iterations.fill_all.Given as goal

abbrev pub invariant-loop-tensor : goal.invariant-loop-tensor
invariant-loop-tensor l =
    (g : Given) → Begins (plain l.program) l.rows g l.params l.margins → AreFilled (plain l.program) l.rows g l.params [] l.initial.arrays
    → AreFilled (plain l.program) l.rows g l.params (take l.tensor-index l.plan.order) l.arrays
