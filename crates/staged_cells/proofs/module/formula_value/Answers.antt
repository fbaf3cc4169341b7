use Rattle.std.proofs.Common.{◌≡◌, Some, sym, ◌∙◌, ap}
use Rattle.soda_ir.specs.declared.program.Parts.{Parts}
use Rattle.soda_ir.specs.Counts.{formula_in}
use Rattle.soda_ir.specs.Program.{plain}
use Rattle.soda_ir.specs.Tree.{formula_of}
use Rattle.soda_ir.specs.Uses.{each_use, is_good_cell, is_good_place}
use Rattle.soda_ir.proofs.CallerLemmas.{formula_good}
use Rattle.staged_cells.proofs.module.formula_value.Goals as goal

pub eval-requires-clause-uses : goal.eval-requires-clause-uses
eval-requires-clause-uses c =
    let p = plain c.args.program.now in
    let here : formula_in p c.args.tensor ≡ Some (formula_of c.in-Some.formula.now) =
    sym (c.in-Some.ensures ∙ ap (λ (q : Parts). formula_in (plain q) c.args.tensor) c.parts-parts.ensures.value) in
    formula_good (each_use (is_good_cell p) (is_good_place p)) p.tensors c.args.tensor
    (formula_of c.in-Some.formula.now) c.parts-parts.ensures.valid.sound.parts.uses here

pub eval-requires-clause-cells : goal.eval-requires-clause-cells
eval-requires-clause-cells c =
    let p = plain c.args.program.now in
    let here : formula_in p c.args.tensor ≡ Some (formula_of c.in-Some.formula.now) =
    sym (c.in-Some.ensures ∙ ap (λ (q : Parts). formula_in (plain q) c.args.tensor) c.parts-parts.ensures.value) in
    c.requires.ports (formula_of c.in-Some.formula.now) here
