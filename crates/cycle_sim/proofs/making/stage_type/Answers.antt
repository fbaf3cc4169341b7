use Rattle.std.proofs.Common.{◌∙◌, slice_get, ap, sym}
use Rattle.soda_ir.specs.Program.{plain}
use Rattle.cycle_sim.proofs.Types.{stage_past}
use Rattle.cycle_sim.proofs.making.stage_type.Goals as goal

pub returns-in-None : goal.returns-in-None
returns-in-None c =
    c.int32.ensures
    ∙ sym (stage_past (plain c.args.program.now) c.args.number
    (sym (c.in-None.ensures.value ∙ ap (λ s. slice_get s.tensors c.args.number) c.requires)))
