use Rattle.std.proofs.Common.{◌≡◌, ◌++◌, ◌∷◌, [], ◌∙◌, ap, rules, FitsSigned, to_z, of_z, pos, slice_index_or}
use Rattle.std.specs.Int.{w128}
use Rattle.std.proofs.lemmas.Int.{to_z-of_z}
use Rattle.soda_ir.specs.Points.{linear}
use Rattle.soda_ir.specs.Program.{extents_at, plain}
use Rattle.staged_cells.specs.Cells.{port_of}
use Rattle.staged_cells.proofs.ports.PortsCells.cell.Goals as goal

pub returns : goal.returns
returns c =
    let s = c.args.self.now in
    let fits : FitsSigned w128 c.at.result = search rules in
    let far : FitsSigned w128 c.distance.result = search rules in
    let distance : to_z w128 (of_z w128 c.distance.result) ≡ linear (extents_at (plain s.parts.now) 1) c.args.offset.now.items =
    to_z-of_z w128 c.distance.result far ∙ c.distance.ensures.value
    ∙ ap (λ ns. linear (ns ++ 1 ∷ []) c.as_slice-2.result.now) c.as_slice.ensures ∙ ap (linear (extents_at (plain s.parts.now) 1)) c.as_slice-2.ensures.value in
    to_z-of_z w128 c.at.result fits
    ∙ c.at.ensures
    ∙ ap (λ z. slice_index_or s.values.now (port_of s.reads.now s.number c.number_read.result z) (pos 0)) distance
    ∙ ap (λ y. slice_index_or s.values.now (port_of s.reads.now s.number y (linear (extents_at (plain s.parts.now) 1) c.args.offset.now.items))
    (pos 0)) c.number_read.ensures
