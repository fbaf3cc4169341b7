use Rattle.std.proofs.Common.{◌≡◌, [], drop, take}
use Rattle.soda_checks.specs.Conditions.{taken_behind}
use Rattle.soda_checks.proofs.conditions.name_twice.Given as goal

abbrev pub invariant-loop-i : goal.invariant-loop-i
invariant-loop-i l = taken_behind (take l.i l.declared) (drop l.i l.declared) ≡ taken_behind [] l.declared
