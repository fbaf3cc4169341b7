use Rattle.std.proofs.Common.{◌≡◌, [], None, Some, drop, slice_index_or, ap, ◌∙◌, arith}
use Rattle.soda_words.specs.Limits.{most_cells}
use Rattle.soda_ir.specs.declared.program.Parts.{Parts}
use Rattle.soda_ir.specs.Points.{size}
use Rattle.soda_ir.specs.Program.{extents_at, plain}
use Rattle.soda_eval.specs.Runs.{borders_of}
use Rattle.soda_run.proofs.Filled.{put_filled}
use Rattle.soda_run.proofs.Lines.{lines_few}
use Rattle.soda_run.proofs.iterations.fill_tensor.Goals as goal

pub fill-requires-clause-lines : goal.fill-requires-clause-lines
fill-requires-clause-lines c =
    let p = plain c.args.program.now in
    let same : c.as_slice.result.now ≡ extents_at p c.args.rows = c.as_slice.ensures ∙ c.requires.plan.extents in
    omega (arith, ap (λ xs. size (drop 1 xs)) same, lines_few p.extents c.args.rows most_cells c.requires.plan.sound.limits.extents (omega arith) c.requires.small)

pub returns : goal.returns
returns c =
    let taken = c.take_out-cells.new.arrays in
    let outside = c.outside.ensures ∙ ap (λ b. elim b [ None ↦ [] | Some j ↦ slice_index_or taken j [] ]) (c.border_of-border.ensures ∙ ap (λ (q : Parts). slice_index_or (borders_of (plain q)) c.args.tensor None) c.parts-parts.ensures.value) in
    put_filled (plain c.args.program.now) c.args.rows c.args.params.now c.args.tensor c.args.margins.now c.args.arrays.now taken c.put_back.new.arrays c.outside.result.now c.fill.new.cells c.take_out-cells.ensures.rest outside c.fill.ensures c.put_back.ensures
