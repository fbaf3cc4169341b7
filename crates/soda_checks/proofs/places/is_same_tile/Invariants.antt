use Rattle.std.proofs.Common.{◌≡◌, ◌≤◌, length, drop}
use Rattle.soda_checks.specs.Conditions.{is_same_tile}
use Rattle.soda_checks.proofs.places.is_same_tile.Given as goal

abbrev pub invariant-loop-i : goal.invariant-loop-i
invariant-loop-i l = (l.i ≤ length l.b) × (is_same_tile (drop l.i l.a) (drop l.i l.b) ≡ is_same_tile l.a l.b)
