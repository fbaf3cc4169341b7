use Rattle.std.proofs.Common.{◌∙◌, sym, rules, FitsSigned}
use Rattle.std.specs.Int.{w128}
use Rattle.std.proofs.lemmas.Int.{to_z-of_z}
use Rattle.soda_ir.specs.Program.{plain}
use Rattle.soda_run.proofs.Cells.{made_inside, made_outside}
use Rattle.soda_run.proofs.fill.Target.cell.Goals as goal

pub returns-then-is_inside : goal.returns-then-is_inside
returns-then-is_inside c =
    let s = c.args.self.now in
    let fits : FitsSigned w128 c.inner.result = search rules in
    made_inside (plain s.program.now) s.rows s.arrays.now s.params.now s.tensor s.margins.now s.outside.now c.args.place _ (sym c.requires.kept ∙ c.if-is_inside.true) (to_z-of_z w128 c.inner.result fits ∙ c.inner.ensures)

pub returns-else-is_inside : goal.returns-else-is_inside
returns-else-is_inside c =
    let s = c.args.self.now in
    let fits : FitsSigned w128 c.cell_or_none.result = search rules in
    made_outside (plain s.program.now) s.rows s.arrays.now s.params.now s.tensor s.margins.now s.outside.now c.args.place _ (sym c.requires.kept ∙ c.if-is_inside.false) (to_z-of_z w128 c.cell_or_none.result fits ∙ c.cell_or_none.ensures)
