use Rattle.std.proofs.Common.{◌++◌, ◌∷◌, [], ◌∙◌, ap, arith, rules, FitsSigned}
use Rattle.std.specs.Int.{w128}
use Rattle.std.proofs.lemmas.Int.{to_z-of_z}
use Rattle.soda_ir.specs.declared.program.Parts.{Parts}
use Rattle.soda_ir.specs.Counts.{reach}
use Rattle.soda_ir.specs.Points.{linear}
use Rattle.soda_ir.specs.Program.{extents_at, plain}
use Rattle.soda_ir.proofs.CallerLemmas.{countable, reach_of}
use Rattle.compute_modules.specs.pieces.Taps.{tap_at}
use Rattle.compute_modules.proofs.tap.read_tap.Goals as goal

pub distance-offset-requires : goal.distance-offset-requires
distance-offset-requires c =
    let p = plain c.args.program.now in
    omega (
      arith,
      ap reach (c.as_slice-extents.ensures ∙ ap (λ (q : Parts). q.extents) c.parts.ensures.value),
      reach_of p (countable p c.parts.ensures.valid.sound),
    )

pub returns : goal.returns
returns c =
    let p = plain c.args.program.now in
    let far : FitsSigned w128 c.distance-offset.result = search rules in
    let extents = c.as_slice-extents.ensures ∙ ap (λ (q : Parts). q.extents) c.parts.ensures.value in
    c.tap_at.ensures
    ∙ ap (tap_at p c.args.number c.args.turn c.args.read.now.tensor) (to_z-of_z w128 c.distance-offset.result far ∙ c.distance-offset.ensures.value
    ∙ ap (λ ns. linear (ns ++ 1 ∷ []) c.as_slice.result.now) extents
    ∙ ap (linear (extents_at p 1)) c.as_slice.ensures.value)
