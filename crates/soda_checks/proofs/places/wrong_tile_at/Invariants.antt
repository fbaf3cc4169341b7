use Rattle.std.proofs.Common.{◌≡◌, drop}
use Rattle.std.specs.Prelude.{find}
use Rattle.soda_checks.specs.Conditions.{has_wrong_tile}
use Rattle.soda_checks.proofs.places.wrong_tile_at.Given as goal

abbrev pub invariant-loop-input : goal.invariant-loop-input
invariant-loop-input l = find (has_wrong_tile l.first) (drop l.input-index l.inputs) ≡ find (has_wrong_tile l.first) l.inputs
