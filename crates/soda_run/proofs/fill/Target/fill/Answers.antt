use Rattle.std.proofs.Common.{◌≡◌, ◌*◌, ◌<◌, [], ◌∷◌, length, pos, drop, slice_index_or, ap, ◌∙◌, arith, length-append}
use Rattle.soda_ir.specs.Points.{size}
use Rattle.soda_ir.specs.Program.{plain}
use Rattle.soda_ir.proofs.CallerLemmas.{known_list}
use Rattle.soda_eval.specs.Runs.{cells_at}
use Rattle.soda_run.specs.pieces.Filled.{made}
use Rattle.soda_run.proofs.Lines.{line_is_kept, lines_size}
use Rattle.soda_run.proofs.fill.Target.fill.Goals as goal

pub fill_line-requires-clause-kept : goal.fill_line-requires-clause-kept
fill_line-requires-clause-kept c = λ k l.
    let s = c.args.self.now in
    let p = plain s.program.now in
    let some : 0 < length c.args.extents.now = omega (arith, ap length c.requires.extents, length-append p.extents (s.rows ∷ [])) in
    let low : 0 < length c.as_slice-low.result.now = omega (arith, ap length c.as_slice-low.ensures, c.requires.ready.low_dims) in
    let high : 0 < length c.as_slice-high.result.now = omega (arith, ap length c.as_slice-high.ensures, c.requires.ready.high_dims) in
    line_is_kept p s.rows s.margins.now c.args.extents.now c.as_slice-low.result.now c.as_slice-high.result.now c.rest_of-in-loop-line.result.now c.rest_of-in-loop-line-2.result.now c.rest_of-in-loop-line-3.result.now c.first_of-extent.result c.first_of.result c.first_of-in-loop-line.result c.loop-line.line k c.keeps-is_inside.result
    c.requires.extents c.as_slice-low.ensures c.as_slice-high.ensures some low high c.first_of-extent.ensures c.first_of.ensures c.first_of-in-loop-line.ensures c.rest_of-in-loop-line.ensures c.rest_of-in-loop-line-2.ensures c.rest_of-in-loop-line-3.ensures c.keeps-is_inside.ensures l

pub returns : goal.returns
returns c =
    let s = c.args.self.now in
    let p = plain s.program.now in
    let ext = c.args.extents.now in
    let some : 0 < length ext = omega (arith, ap length c.requires.extents, length-append p.extents (s.rows ∷ [])) in
    let lines : c.loop-line.line ≡ size (drop 1 ext) = omega (arith, c.size-line-end.ensures, ap size c.rest_of.ensures, c.requires.lines) in
    let swap : size (drop 1 ext) * slice_index_or ext 0 0 ≡ cells_at p s.rows = omega (arith, lines_size ext some, ap size c.requires.extents) in
    let end : c.loop-line.line * c.first_of-extent.result ≡ cells_at p s.rows = ap (λ k. k * c.first_of-extent.result) lines ∙ ap (λ k. size (drop 1 ext) * k) c.first_of-extent.ensures ∙ swap in
    known_list (made p s.rows s.arrays.now s.params.now s.tensor s.margins.now s.outside.now) (cells_at p s.rows) c.loop-line.cells (pos 0) c.loop-line.invariant.whole (λ i l. c.loop-line.invariant.done i (omega (arith, end, l)))
