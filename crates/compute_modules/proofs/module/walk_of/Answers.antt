use Rattle.std.proofs.Common.{◌≡◌, ℕ, ◌++◌, ◌∷◌, [], List, length, sym, ◌∙◌, ap}
use Rattle.soda_ir.specs.declared.program.Parts.{Parts}
use Rattle.soda_ir.specs.Program.{extents_at, plain}
use Rattle.compute_modules.specs.declared.walk.Walk.{Walk}
use Rattle.compute_modules.specs.pieces.Walks.{box, sides_of}
use Rattle.compute_modules.proofs.Modules.{ok_more}
use Rattle.compute_modules.proofs.module.walk_of.Goals as goal

pub new-requires-clause-low : goal.new-requires-clause-low
new-requires-clause-low c =
    let p = plain c.args.program.now in
    let dims = c.stages_have_dimensions.ensures p c.args.rows c.args.number c.args.stage.now c.parts.ensures.valid.sound c.requires.tensor in
    let extents : c.as_slice-2.result.now ≡ extents_at p c.args.rows = c.as_slice-2.ensures ∙ c.in_ok-push.ensures.ok
    ∙ ap (λ (ns : List ℕ). ns ++ c.args.rows ∷ []) (c.in_ok-extents.ensures ∙ c.as_slice.ensures ∙ ap (λ (q : Parts). q.extents) c.parts.ensures.value) in
    ap length c.as_slice-3.ensures ∙ dims.0 ∙ sym (ap length extents)

pub new-requires-clause-high : goal.new-requires-clause-high
new-requires-clause-high c =
    let p = plain c.args.program.now in
    let dims = c.stages_have_dimensions.ensures p c.args.rows c.args.number c.args.stage.now c.parts.ensures.valid.sound c.requires.tensor in
    let extents : c.as_slice-2.result.now ≡ extents_at p c.args.rows = c.as_slice-2.ensures ∙ c.in_ok-push.ensures.ok
    ∙ ap (λ (ns : List ℕ). ns ++ c.args.rows ∷ []) (c.in_ok-extents.ensures ∙ c.as_slice.ensures ∙ ap (λ (q : Parts). q.extents) c.parts.ensures.value) in
    ap length c.as_slice-4.ensures ∙ dims.1 ∙ sym (ap length extents)

pub returns-clause-sides : goal.returns-clause-sides
returns-clause-sides c =
    let p = plain c.args.program.now in
    let s = c.args.stage.now in
    let extents : c.as_slice-2.result.now ≡ extents_at p c.args.rows = c.as_slice-2.ensures ∙ c.in_ok-push.ensures.ok
    ∙ ap (λ (ns : List ℕ). ns ++ c.args.rows ∷ []) (c.in_ok-extents.ensures ∙ c.as_slice.ensures ∙ ap (λ (q : Parts). q.extents) c.parts.ensures.value) in
    let same : sides_of c.as_slice-2.result.now c.as_slice-3.result.now c.as_slice-4.result.now ≡ sides_of (extents_at p c.args.rows) s.low s.high =
    ap (λ (ns : List ℕ). sides_of ns c.as_slice-3.result.now c.as_slice-4.result.now) extents
    ∙ ap (λ (ls : List ℕ). sides_of (extents_at p c.args.rows) ls c.as_slice-4.result.now) c.as_slice-3.ensures
    ∙ ap (λ (hs : List ℕ). sides_of (extents_at p c.args.rows) s.low hs) c.as_slice-4.ensures in
    ok_more (λ (w : Walk). box w.sides.items ≡ sides_of c.as_slice-2.result.now c.as_slice-3.result.now c.as_slice-4.result.now)
    (λ (w : Walk). box w.sides.items ≡ sides_of (extents_at p c.args.rows) s.low s.high) (λ w e. e ∙ same) c.new.result c.new.ensures.sides
