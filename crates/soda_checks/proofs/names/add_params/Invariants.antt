use Rattle.std.proofs.Common.{◌≡◌, ◌++◌, map, take}
use Rattle.soda_checks.proofs.names.add_params.Given as goal

abbrev pub invariant-loop-param : goal.invariant-loop-param
invariant-loop-param l = l.names ≡ l.initial.names ++ map (λ x. x.name.text) (take l.param-index l.params)
