use Rattle.std.proofs.Common.{◌+◌, ◌-◌, ◌/◌, arith, ap, ◌∙◌}
use Rattle.soda_ir.specs.declared.program.Parts.{Parts}
use Rattle.soda_ir.specs.Points.{size}
use Rattle.soda_ir.specs.Program.{extents_at, plain}
use Rattle.reuse_chain.specs.Lanes.{greatest}
use Rattle.net_build.proofs.Cells.{cells_are}
use Rattle.net_build.proofs.firing.firings.Goals as goal

pub overflow_cast-cells : goal.overflow_cast-cells
overflow_cast-cells c =
    let p = plain c.args.program.now in
    let extents = c.as_slice.ensures ∙ ap (λ (q : Parts). q.extents) c.parts-parts.ensures.value in
    let cells = cells_are c.cells_in-cells.result c.args.rows c.as_slice.result.now p.extents c.cells_in-cells.ensures extents c.requires.cells in
    omega (arith, cells, c.requires.cells)

pub overflow_add-result : goal.overflow_add-result
overflow_add-result c =
    let p = plain c.args.program.now in
    let extents = c.as_slice.ensures ∙ ap (λ (q : Parts). q.extents) c.parts-parts.ensures.value in
    let cells = cells_are c.cells_in-cells.result c.args.rows c.as_slice.result.now p.extents c.cells_in-cells.ensures extents c.requires.cells in
    omega (arith, cells, c.requires.cells, c.greatest_of.ensures, c.requires.delays)

pub overflow_add-result-2 : goal.overflow_add-result-2
overflow_add-result-2 c =
    let p = plain c.args.program.now in
    let extents = c.as_slice.ensures ∙ ap (λ (q : Parts). q.extents) c.parts-parts.ensures.value in
    let cells = cells_are c.cells_in-cells.result c.args.rows c.as_slice.result.now p.extents c.cells_in-cells.ensures extents c.requires.cells in
    let unroll = ap (λ (q : Parts). q.unroll) c.parts-parts.ensures.value in
    omega (arith, cells, c.requires.cells, c.greatest_of.ensures, c.requires.delays, unroll, c.parts-parts.ensures.valid.sound.limits.few_lanes)

pub returns : goal.returns
returns c =
    let p = plain c.args.program.now in
    let u = c.parts-parts.result.now.unroll in
    let extents = c.as_slice.ensures ∙ ap (λ (q : Parts). q.extents) c.parts-parts.ensures.value in
    let cells = cells_are c.cells_in-cells.result c.args.rows c.as_slice.result.now p.extents c.cells_in-cells.ensures extents c.requires.cells in
    let all = size (extents_at p c.args.rows) in
    ap (λ k. (k + c.greatest_of.result + (u - 1)) / u) cells
    ∙ ap (λ k. (all + k + (u - 1)) / u) c.greatest_of.ensures
    ∙ ap (λ k. (all + greatest c.args.delays.now + (k - 1)) / k) (ap (λ (q : Parts). q.unroll) c.parts-parts.ensures.value)
