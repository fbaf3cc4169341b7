use Rattle.std.proofs.Common.{◌∙◌, ap, rules, FitsSigned, slice_index_or, to_z, of_z}
use Rattle.std.specs.Int.{w128}
use Rattle.std.proofs.lemmas.Int.{to_z-of_z}
use Rattle.int_types.specs.Ranges.{wrapped}
use Rattle.soda_words.specs.IntType.{int32}
use Rattle.soda_ir.specs.declared.program.Parts.{Parts}
use Rattle.soda_ir.specs.Program.{plain}
use Rattle.soda_eval.specs.Runs.{scope_of}
use Rattle.soda_run.specs.pieces.Filled.{cell_made}
use Rattle.soda_run.proofs.fill.Target.inner.Goals as goal

pub plain_cell-requires-clause-inside : goal.plain_cell-requires-clause-inside
plain_cell-requires-clause-inside c =
    λ f e. c.requires.ready.inside f c.args.place e c.requires.there c.requires.kept

pub returns : goal.returns
unfolding cell_made
returns c =
    let p = plain c.args.self.now.program.now in
    let fits : FitsSigned w128 c.wrap.result = search rules in
    let small : FitsSigned w128 c.plain_cell.result = search rules in
    to_z-of_z w128 c.wrap.result fits
    ∙ c.wrap.ensures.value
    ∙ ap (λ t. wrapped t (to_z w128 (of_z w128 c.plain_cell.result))) (c.tensor_type.ensures ∙ ap (λ (q : Parts). slice_index_or (scope_of (plain q)).tensors c.args.self.now.tensor int32) c.parts.ensures.value)
    ∙ ap (λ v. wrapped (slice_index_or (scope_of p).tensors c.args.self.now.tensor int32) v) (to_z-of_z w128 c.plain_cell.result small ∙ c.plain_cell.ensures)
