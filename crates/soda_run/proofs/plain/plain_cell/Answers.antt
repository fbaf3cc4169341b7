use Rattle.std.proofs.Common.{arith, ◌≡◌, [], ◌∷◌, ◌++◌, Some, pos, ◌+ℤ◌, sym, ◌∙◌, ap, rules, FitsSigned, slice_index_or}
use Rattle.std.specs.Int.{w128}
use Rattle.std.proofs.lemmas.Int.{to_z-of_z}
use Rattle.soda_ir.specs.declared.program.Parts.{Parts}
use Rattle.soda_ir.specs.Counts.{formula_in, reach}
use Rattle.soda_ir.specs.Points.{linear}
use Rattle.soda_ir.specs.Formula.{by_formula}
use Rattle.soda_ir.specs.Program.{extents_at, plain}
use Rattle.soda_ir.specs.Tree.{formula_of}
use Rattle.soda_ir.specs.Uses.{each_use, is_good_cell, is_good_place}
use Rattle.soda_ir.proofs.CallerLemmas.{countable, formula_good, reach_of}
use Rattle.soda_eval.specs.Arrays.{array_cell}
use Rattle.soda_eval.specs.Points.{moved, point}
use Rattle.soda_eval.specs.Runs.{scope_of}
use Rattle.soda_eval.specs.Values.{valued}
use Rattle.soda_run.specs.pieces.Reads.{numbered}
use Rattle.soda_run.proofs.Distances.{reads_in_range, value_read}
use Rattle.soda_run.proofs.plain.plain_cell.Goals as goal

pub invariant_of-spot : goal.invariant_of-spot
invariant_of-spot c =
    let p = plain c.args.program.now in
    let same = ap reach (c.as_slice.ensures ∙ ap (λ (q : Parts). q.extents) c.parts-parts.ensures.value) in
    record { small = omega (arith, same, reach_of p (countable p c.parts-parts.ensures.valid.sound)) }

pub eval-requires-clause-uses : goal.eval-requires-clause-uses
eval-requires-clause-uses c =
    let p = plain c.args.program.now in
    let here : formula_in p c.args.tensor ≡ Some (formula_of c.in-Some.formula.now) = sym (c.in-Some.ensures ∙ ap (λ (q : Parts). formula_in (plain q) c.args.tensor) c.parts-parts.ensures.value) in
    formula_good (each_use (is_good_cell p) (is_good_place p)) p.tensors c.args.tensor (formula_of c.in-Some.formula.now) c.parts-parts.ensures.valid.sound.parts.uses here

pub eval-requires-clause-cells : goal.eval-requires-clause-cells
eval-requires-clause-cells c =
    let p = plain c.args.program.now in
    let here : formula_in p c.args.tensor ≡ Some (formula_of c.in-Some.formula.now) = sym (c.in-Some.ensures ∙ ap (λ (q : Parts). formula_in (plain q) c.args.tensor) c.parts-parts.ensures.value) in
    reads_in_range p c.args.rows c.args.arrays.now (λ o. pos c.args.place +ℤ linear (c.as_slice.result.now ++ 1 ∷ []) o) (formula_of c.in-Some.formula.now) (c.requires.arrays (formula_of c.in-Some.formula.now) here)

pub returns-in-Some : goal.returns-in-Some
returns-in-Some c =
    let p = plain c.args.program.now in
    let f = formula_of c.in-Some.formula.now in
    let here : formula_in p c.args.tensor ≡ Some f = sym (c.in-Some.ensures ∙ ap (λ (q : Parts). formula_in (plain q) c.args.tensor) c.parts-parts.ensures.value) in
    let same : c.as_slice.result.now ≡ p.extents = c.as_slice.ensures ∙ ap (λ (q : Parts). q.extents) c.parts-parts.ensures.value in
    let fits : FitsSigned w128 c.eval.result = search rules in
    let read : c.eval.result ≡ valued (scope_of p) (λ t o. numbered (slice_index_or c.args.arrays.now t []) (pos c.args.place +ℤ linear (c.as_slice.result.now ++ 1 ∷ []) o)) c.args.params.now f = c.eval.ensures in
    to_z-of_z w128 c.eval.result fits ∙ read
    ∙ value_read p c.parts-parts.ensures.valid.sound c.args.rows c.args.arrays.now c.args.params.now c.args.tensor c.args.place f c.as_slice.result.now same here c.requires.there (c.requires.inside f here)
    ∙ sym (ap (λ h. by_formula h (pos 0) (valued (scope_of p) (λ t o. array_cell (extents_at p c.args.rows) (slice_index_or c.args.arrays.now t []) (moved (point (extents_at p c.args.rows) c.args.place) o)) c.args.params.now)) here)
