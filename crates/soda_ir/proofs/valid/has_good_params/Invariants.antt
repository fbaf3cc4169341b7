use Rattle.std.proofs.Common.{◌≡◌, true, take}
use Rattle.std.specs.List.{list_all}
use Rattle.soda_ir.specs.Program.{plain_param}
use Rattle.soda_ir.specs.Valid.{is_good_param}
use Rattle.soda_ir.proofs.valid.has_good_params.Given as goal

abbrev pub invariant-loop-param : goal.invariant-loop-param
invariant-loop-param l = list_all (λ q. is_good_param (plain_param q)) (take l.param-index l.params) ≡ true
