use Rattle.std.proofs.Common.{◌∙◌}
use Rattle.share_expr.proofs.Types.{no_param, param_got}
use Rattle.share_expr.proofs.local.param_type.Goals as goal

pub returns-in-Some : goal.returns-in-Some
returns-in-Some c = param_got c.args.params.now c.args.param c.in-Some.param.now c.in-Some.ensures

pub returns-in-None : goal.returns-in-None
returns-in-None c = c.int32.ensures ∙ no_param c.args.params.now c.args.param c.in-None.ensures
