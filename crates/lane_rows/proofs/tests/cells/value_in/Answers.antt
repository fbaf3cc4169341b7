use Rattle.std.proofs.Common.{slice_index_or}
use Rattle.soda_words.specs.IntType.{int32}
use Rattle.int_types.specs.Ranges.{InRange, wrapped}
use Rattle.int_types.proofs.CallerLemmas.{wrapped_in_range}
use Rattle.soda_ir.specs.Program.{plain}
use Rattle.soda_ir.specs.Tree.{formula_of}
use Rattle.soda_eval.specs.Runs.{scope_of}
use Rattle.lane_rows.specs.Cells.{cell_at}
use Rattle.lane_rows.proofs.Cells.{each_of_all}
use Rattle.lane_rows.proofs.tests.cells.value_in.Goals as goal

pub eval-requires-clause-cells : goal.eval-requires-clause-cells
eval-requires-clause-cells c =
    let types = (scope_of (plain c.args.program.now)).tensors in
    let cell = cell_at c.args.arrays.now c.args.lane in
    each_of_all (λ t o. InRange (slice_index_or types t int32) (wrapped (slice_index_or types t int32) (cell t o))) (λ t o. wrapped_in_range (slice_index_or types t int32) (cell t o)) (formula_of c.args.expr.now)
