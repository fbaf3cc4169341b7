use Rattle.compute_modules.proofs.Taps.{border_is, no_border}
use Rattle.compute_modules.proofs.tap.border_tap.Goals as goal

pub returns-then-has_border : goal.returns-then-has_border
returns-then-has_border c =
    border_is c.args.program.now c.parts-parts.result.now c.args.number c.args.turn c.args.tensor c.output_number-input.result c.is_preserved.result c.is_output.result
    c.tap_at.result c.parts-parts.ensures.value c.is_preserved.ensures c.is_output.ensures c.output_number-input.ensures.value c.tap_at.ensures
    c.if-has_border.true

pub returns-else-has_border : goal.returns-else-has_border
returns-else-has_border c =
    no_border c.args.program.now c.parts-parts.result.now c.args.number c.args.turn c.args.tensor c.is_preserved.result c.is_output.result
    c.parts-parts.ensures.value c.is_preserved.ensures c.is_output.ensures c.if-has_border.false
