use Rattle.std.proofs.Common.{◌≡◌, drop}
use Rattle.soda_checks.specs.Conditions.{is_tile}
use Rattle.soda_checks.proofs.places.is_tile.Given as goal

abbrev pub invariant-loop-i : goal.invariant-loop-i
invariant-loop-i l = is_tile (drop l.i l.items) ≡ is_tile l.items
