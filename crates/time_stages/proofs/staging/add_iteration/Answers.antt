use Rattle.std.proofs.Common.{◌≡◌, ◌+◌, ◌-◌, ◌<◌, ◌++◌, suc, length, ◌∙◌, ap, arith, add-one}
use Rattle.std.proofs.lemmas.Result.{on_ok_weaker}
use Rattle.soda_ir.specs.declared.program.Parts.{Parts}
use Rattle.soda_ir.specs.Counts.{is_live}
use Rattle.soda_ir.specs.Points.{listed}
use Rattle.soda_ir.specs.Program.{plain}
use Rattle.soda_ir.proofs.CallerLemmas.{length-listed}
use Rattle.time_stages.specs.Placing.{placing_order}
use Rattle.time_stages.proofs.StagedLists.{iteration_is, marks_at, order_within, places_within}
use Rattle.time_stages.proofs.staging.add_iteration.Goals as goal

pub bounds-as_slice-later : goal.bounds-as_slice-later
bounds-as_slice-later c =
    let p = plain c.args.program.now in
    omega (arith, ap length (c.as_slice-2.ensures ∙ c.requires.frame.live), length-listed (λ k. listed (is_live p k) (length p.tensors)) p.iterate, c.requires.there, ap (λ (q : Parts). q.iterate) c.parts.ensures.value)

pub add_marked-requires : goal.add_marked-requires
add_marked-requires c =
    let p = plain c.args.program.now in
    places_within p c.args.earlier c.as_slice.result.now (placing_order p) c.args.margins.now c.requires.made (c.as_slice.ensures ∙ c.requires.frame.order) (order_within p)

pub returns : goal.returns
returns c =
    let p = plain c.args.program.now in
    let later = p.iterate - suc c.args.earlier in
    let at : c.parts.result.now.iterate - 1 - c.args.earlier ≡ later = omega (arith, ap (λ (q : Parts). q.iterate) c.parts.ensures.value) in
    let within : later < p.iterate = omega (arith, c.requires.there) in
    let marks = marks_at p c.as_slice-2.result.now (c.parts.result.now.iterate - 1 - c.args.earlier) later c.index-as_slice-later.result c.as_slice-3.result.now (c.as_slice-2.ensures ∙ c.requires.frame.live) at within c.index-as_slice-later.is c.as_slice-3.ensures in
    on_ok_weaker c.add_marked.result (λ e. e ∙ ap (λ xs. c.args.tensors.now.items ++ xs) (iteration_is p c.args.earlier later (c.args.earlier + 1) c.args.margins.now c.as_slice-3.result.now c.as_slice.result.now (add-one c.args.earlier) c.requires.made
    (c.as_slice.ensures ∙ c.requires.frame.order) marks)) c.add_marked.ensures
