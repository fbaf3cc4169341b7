use Rattle.std.proofs.Common.{◌≡◌, ℕ, ℤ, ◌&&◌, true, false, pos, slice_index_or, sym, ◌∙◌, ap, rules, FitsSigned, if◌then◌else◌}
use Rattle.std.specs.Int.{w128}
use Rattle.std.proofs.lemmas.Int.{to_z-of_z}
use Rattle.soda_ir.specs.Counts.{is_output, output_number}
use Rattle.soda_ir.specs.Program.{plain, preserves}
use Rattle.time_stages.specs.Staged.{number_read}
use Rattle.staged_cells.specs.Cells.{port_of}
use Rattle.staged_cells.proofs.module.border_value.Goals as goal

pub returns-then-has_border : goal.returns-then-has_border
returns-then-has_border c =
    let p = plain c.args.parts.now in
    let s = c.args.ports.now in
    let x = c.args.tensor in
    let fits : FitsSigned w128 c.at.result = search rules in
    let both : (preserves p && is_output p x) ≡ true = ap (λ b. b && is_output p x) (sym c.is_preserved.ensures)
    ∙ ap (λ b. c.is_preserved.result && b) (sym c.is_output.ensures) ∙ c.if-has_border.true in
    let at : ℕ → ℤ = λ y. slice_index_or s.values.now (port_of s.reads.now s.number y (pos 0)) (pos 0) in
    to_z-of_z w128 c.at.result fits
    ∙ c.at.ensures
    ∙ ap at (c.number_read.ensures ∙ ap (number_read p s.tensors.now s.turn) c.output_number-input.ensures.value)
    ∙ sym (ap (λ b. if b then at (number_read p s.tensors.now s.turn (output_number p x)) else pos 0) both)

pub returns-else-has_border : goal.returns-else-has_border
returns-else-has_border c =
    let p = plain c.args.parts.now in
    let s = c.args.ports.now in
    let x = c.args.tensor in
    let none : (preserves p && is_output p x) ≡ false = ap (λ b. b && is_output p x) (sym c.is_preserved.ensures)
    ∙ ap (λ b. c.is_preserved.result && b) (sym c.is_output.ensures) ∙ c.if-has_border.false in
    sym (ap (λ b. if b then slice_index_or s.values.now (port_of s.reads.now s.number (number_read p s.tensors.now s.turn (output_number p x)) (pos 0))
    (pos 0) else pos 0) none)
