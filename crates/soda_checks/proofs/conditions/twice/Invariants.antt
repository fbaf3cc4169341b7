use Rattle.std.proofs.Common.{◌≡◌, [], drop, take}
use Rattle.soda_checks.specs.Conditions.{twice_behind}
use Rattle.soda_checks.proofs.conditions.twice.Given as goal

abbrev pub invariant-loop-i : goal.invariant-loop-i
invariant-loop-i l = twice_behind (take l.i l.settings) (drop l.i l.settings) ≡ twice_behind [] l.settings
