use Rattle.std.proofs.Common.{◌≡◌, drop}
use Rattle.soda_checks.specs.Conditions.{has_output}
use Rattle.soda_checks.proofs.conditions.has_output.Given as goal

abbrev pub invariant-loop-line : goal.invariant-loop-line
invariant-loop-line l = has_output (drop l.line-index l.defined) ≡ has_output l.defined
