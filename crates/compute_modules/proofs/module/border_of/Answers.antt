use Rattle.std.proofs.Common.{[], Option, ◌∙◌, ap}
use Rattle.soda_ir.specs.Program.{plain}
use Rattle.compute_modules.specs.declared.tap.Tap.{Tap}
use Rattle.compute_modules.specs.pieces.Taps.{border_taken}
use Rattle.compute_modules.proofs.Formulas.{outer_is}
use Rattle.compute_modules.proofs.module.border_of.Goals as goal

pub returns : goal.returns
returns c = λ ports.
    let p = plain c.args.program.now in
    ap (λ (o : Option Tap). border_taken o ports) c.border_tap.ensures
    ∙ outer_is p [] c.args.number c.args.stage.now
    (c.formulas_read_ports.ensures.border p c.args.number c.args.stage.now c.parts.ensures.valid.sound c.requires.tensor) ports
