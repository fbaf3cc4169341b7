use Rattle.std.proofs.Common.{◌≡◌, Some, sym, ◌∙◌, ap}
use Rattle.soda_ir.specs.declared.program.Parts.{Parts}
use Rattle.soda_ir.specs.Counts.{formula_in}
use Rattle.soda_ir.specs.Program.{plain}
use Rattle.soda_ir.specs.Tree.{formula_of}
use Rattle.soda_ir.specs.Uses.{each_use, is_good_cell, is_good_place}
use Rattle.soda_ir.proofs.CallerLemmas.{formula_good}
use Rattle.lane_rows.proofs.tests.cells.values_of.Goals as goal

pub value_in-requires-clause-uses : goal.value_in-requires-clause-uses
value_in-requires-clause-uses c =
    let p = plain c.args.program.now in
    let here : formula_in p 14 ≡ Some (formula_of c.in-Some.expr.now) = sym (c.in-Some.ensures ∙ ap (λ (q : Parts). formula_in (plain q) 14) c.parts.ensures.value) in
    formula_good (each_use (is_good_cell p) (is_good_place p)) p.tensors 14 (formula_of c.in-Some.expr.now) c.parts.ensures.valid.sound.parts.uses here
