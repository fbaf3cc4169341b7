use Rattle.std.proofs.Common.{◌∙◌, None, Some, sym}
use Rattle.cycle_sim.proofs.Types.{type_read}
use Rattle.cycle_sim.proofs.making.tensor_type.Goals as goal

pub returns-in-Some : goal.returns-in-Some
returns-in-Some c = type_read c.args.parts.now.tensors c.args.tensor (Some c.in-Some.tensor.now) (sym c.in-Some.ensures.value)

pub returns-in-None : goal.returns-in-None
returns-in-None c = c.int32.ensures ∙ type_read c.args.parts.now.tensors c.args.tensor None (sym c.in-None.ensures.value)
