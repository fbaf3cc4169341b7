use Rattle.std.proofs.Common.{◌≡◌, ◌++◌, map, take}
use Rattle.soda_checks.proofs.names.add_defined.Given as goal

abbrev pub invariant-loop-line : goal.invariant-loop-line
invariant-loop-line l = l.names ≡ l.initial.names ++ map (λ x. x.name.text) (take l.line-index l.defined)
