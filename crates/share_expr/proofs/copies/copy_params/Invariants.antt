use Rattle.std.proofs.Common.{◌≡◌, map, take}
use Rattle.soda_ir.specs.Program.{plain_param}
use Rattle.share_expr.proofs.copies.copy_params.Given as goal

abbrev pub invariant-loop-param : goal.invariant-loop-param
invariant-loop-param l = map plain_param l.copies ≡ map plain_param (take l.param-index l.params)
