-- Tiles of different lengths.
use Rattle.std.proofs.Common.{◌≡◌, ℕ, ◌<◌, ◌≤◌, false, List, length, drop, refl}
use Rattle.std.proofs.Math.ListN.{drop_of_length-le}
use Rattle.std.proofs.lemmas.List.{drop_more}
use Rattle.soda_checks.specs.Conditions.{is_same_tile}
use Rattle.soda_formula.specs.declared.statement.Extent.{Extent}
use Rattle.soda_formula.specs.declared.statement.Extent.TheVariants.{Open}

pub shorter : (a b : List Extent) (i : ℕ) → i < length a → length b ≤ i → is_same_tile (drop i a) (drop i b) ≡ false
shorter a b i lt le = rw (drop_more a i Open lt, drop_of_length-le b le) refl
