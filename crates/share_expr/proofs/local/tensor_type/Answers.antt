use Rattle.std.proofs.Common.{◌∙◌}
use Rattle.share_expr.proofs.Types.{no_tensor, tensor_got}
use Rattle.share_expr.proofs.local.tensor_type.Goals as goal

pub returns-in-Some : goal.returns-in-Some
returns-in-Some c = tensor_got c.args.tensors.now c.args.tensor c.in-Some.tensor.now c.in-Some.ensures

pub returns-in-None : goal.returns-in-None
returns-in-None c = c.int32.ensures ∙ no_tensor c.args.tensors.now c.args.tensor c.in-None.ensures
