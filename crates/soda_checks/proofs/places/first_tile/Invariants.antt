use Rattle.std.proofs.Common.{◌≡◌, drop}
use Rattle.soda_checks.specs.Conditions.{first_by}
use Rattle.soda_checks.proofs.places.first_tile.Given as goal

abbrev pub invariant-loop-input : goal.invariant-loop-input
invariant-loop-input l = first_by (λ i. i.tile) (drop l.input-index l.inputs) ≡ first_by (λ i. i.tile) l.inputs
