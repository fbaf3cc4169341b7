use Rattle.std.proofs.Common.{sym, subst}
use Rattle.soda_ir.specs.declared.program.Parts.{Parts}
use Rattle.soda_ir.specs.Program.{plain}
use Rattle.soda_ir.specs.Tree.{formula_of}
use Rattle.soda_eval.specs.Runs.{scope_of}
use Rattle.soda_eval.specs.Values.{IsReadable}
use Rattle.soda_eval.proofs.Readable.{readable}
use Rattle.soda_eval.proofs.value.eval.Goals as goal

pub evaluate-requires : goal.evaluate-requires
evaluate-requires g c =
    let f = formula_of c.args.expr.now in
    let cells = g.C.Cells.value c.args.cells.now in
    subst (λ (p : Parts). IsReadable (scope_of (plain p)) cells c.args.params.now f) (sym c.parts.ensures.value)
    (readable (plain c.args.program.now) cells c.args.params.now c.requires.params f c.requires.uses c.requires.cells)
