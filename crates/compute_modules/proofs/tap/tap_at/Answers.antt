use Rattle.std.proofs.Common.{length, ap, ◌∙◌, arith}
use Rattle.std.specs.Int.{w128}
use Rattle.std.proofs.lemmas.Int.{to_z-of_z}
use Rattle.soda_ir.specs.Program.{plain}
use Rattle.time_stages.specs.declared.staging.Staged.{Staged}
use Rattle.time_stages.proofs.CallerLemmas.{tensors_counted}
use Rattle.staged_cells.specs.Cells.{port_of}
use Rattle.compute_modules.proofs.Taps.{tap_is}
use Rattle.compute_modules.proofs.tap.tap_at.Goals as goal

pub number_read-of-requires-clause-few : goal.number_read-of-requires-clause-few
number_read-of-requires-clause-few c =
    let p = plain c.args.program.now in
    let valid = c.parts-parts.ensures.valid in
    omega (arith, ap length (c.as_slice.ensures ∙ ap (λ (s : Staged). s.tensors) c.requires), tensors_counted p valid.sound, valid.few_live)

pub returns : goal.returns
returns c =
    tap_is c.args.program.now c.parts-parts.result.now c.as_slice.result.now c.as_slice-2.result.now c.args.number c.args.turn c.args.tensor c.number_read-of.result c.port_of.result c.args.offset
    c.type_of.result c.parts-parts.ensures.value (c.as_slice.ensures ∙ ap (λ (s : Staged). s.tensors) c.requires)
    (c.as_slice-2.ensures ∙ ap (λ (s : Staged). s.reads) c.requires) c.number_read-of.ensures
    (c.port_of.ensures ∙ ap (port_of c.as_slice-2.result.now c.args.number c.number_read-of.result) (to_z-of_z w128 c.args.offset c.ranges.offset)) c.type_of.ensures
