use Rattle.std.proofs.Common.{◌≡◌, ◌++◌, ◌∷◌, [], Some, None, false, List, ℕ, sym, ◌∙◌, ap, rules, FitsSigned}
use Rattle.std.specs.Int.{w64, w128}
use Rattle.std.proofs.lemmas.Int.{to_z-of_z}
use Rattle.soda_ir.specs.declared.program.Parts.{Parts}
use Rattle.soda_ir.specs.Counts.{is_input}
use Rattle.soda_ir.specs.Points.{size}
use Rattle.soda_ir.specs.Program.{plain}
use Rattle.soda_eval.specs.Runs.{cells_at}
use Rattle.time_stages.specs.declared.staging.StagedTensor.{StagedTensor}
use Rattle.staged_cells.specs.pieces.Ports.{place_in}
use Rattle.staged_cells.proofs.Held.{defined_nowhere, sent_nowhere, sent_there, some_same}
use Rattle.staged_cells.proofs.Sent.{sent_is}
use Rattle.staged_cells.proofs.module.cell_of.Goals as goal

pub returns-in-Some-clause-value : goal.returns-in-Some-clause-value
returns-in-Some-clause-value c = λ s e.
    let p = plain c.args.program.now in
    let extents = c.as_slice.ensures ∙ ap (λ (q : Parts). q.extents) c.parts.ensures.value in
    let place : Some c.in-Some.place ≡ place_in (cells_at p c.args.rows) c.args.index = c.in-Some.ensures
    ∙ ap (place_in (size (c.as_slice.result.now ++ c.args.rows ∷ []))) (to_z-of_z w64 c.args.index c.ranges.index)
    ∙ ap (λ (ns : List ℕ). place_in (size (ns ++ c.args.rows ∷ [])) c.args.index) extents in
    let fits : FitsSigned w128 c.sent.result = search rules in
    to_z-of_z w128 c.sent.result fits ∙ c.sent.ensures s e
    ∙ sent_there p c.args.rows c.args.params.now c.args.tensor s c.args.ports.now c.args.index c.in-Some.place place

pub returns-in-Some-clause-defined : goal.returns-in-Some-clause-defined
returns-in-Some-clause-defined c = λ s inputs e hold.
    let p = plain c.args.program.now in
    let named = c.requires.tensor in
    let local : is_input p s.tensor ≡ false = ap (λ (z : StagedTensor). is_input p z.tensor) (some_same s named.0 (sym e ∙ named.1)) ∙ named.2 in
    returns-in-Some-clause-value c s e
    ∙ sent_is p c.parts.ensures.valid.sound c.args.rows c.args.params.now inputs c.args.tensor s e c.args.index c.args.ports.now hold local

pub returns-in-None-clause-value : goal.returns-in-None-clause-value
returns-in-None-clause-value c = λ s e.
    let p = plain c.args.program.now in
    let extents = c.as_slice.ensures ∙ ap (λ (q : Parts). q.extents) c.parts.ensures.value in
    let place : None ≡ place_in (cells_at p c.args.rows) c.args.index = c.in-None.ensures
    ∙ ap (place_in (size (c.as_slice.result.now ++ c.args.rows ∷ []))) (to_z-of_z w64 c.args.index c.ranges.index)
    ∙ ap (λ (ns : List ℕ). place_in (size (ns ++ c.args.rows ∷ [])) c.args.index) extents in
    sent_nowhere p c.args.rows c.args.params.now c.args.tensor s c.args.ports.now c.args.index place

pub returns-in-None-clause-defined : goal.returns-in-None-clause-defined
returns-in-None-clause-defined c = λ s inputs e hold.
    let p = plain c.args.program.now in
    let extents = c.as_slice.ensures ∙ ap (λ (q : Parts). q.extents) c.parts.ensures.value in
    let place : None ≡ place_in (cells_at p c.args.rows) c.args.index = c.in-None.ensures
    ∙ ap (place_in (size (c.as_slice.result.now ++ c.args.rows ∷ []))) (to_z-of_z w64 c.args.index c.ranges.index)
    ∙ ap (λ (ns : List ℕ). place_in (size (ns ++ c.args.rows ∷ [])) c.args.index) extents in
    defined_nowhere p c.args.rows c.args.params.now inputs s c.args.index place
