use Rattle.std.proofs.Common.{arith, ◌≡◌, ◌*◌, ap, sym, ◌∙◌}
use Rattle.soda_ir.specs.declared.program.Parts.{Parts}
use Rattle.soda_ir.specs.Points.{size}
use Rattle.soda_ir.specs.Program.{plain}
use Rattle.soda_run.proofs.CellCount.{size_rows}
use Rattle.soda_run.proofs.sizes.array_cells.Goals as goal

pub returns : goal.returns
returns c =
    let p = plain c.args.program.now in
    let same = ap size (c.as_slice.ensures ∙ ap (λ (q : Parts). q.extents) c.parts.ensures.value) in
    let small = c.parts.ensures.valid.sound.limits.small_tile in
    let tile : c.size.result ≡ size p.extents = omega (arith, c.size.ensures, same, small) in
    ap (λ k. k * c.args.rows) tile ∙ sym (size_rows p.extents c.args.rows)
