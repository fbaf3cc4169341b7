-- The bursts of a run's inputs and outputs.
use Rattle.std.specs.Prelude.{◌≡◌, ℕ, ◌*◌, ◌%◌}
use Rattle.soda_words.specs.IntType.{IntType}
use Rattle.array_bytes.specs.Sizes.{cell_size}

-- whole cells of the type fill a burst of so many bits
abbrev pub AreWhole : (burst : ℕ) → IntType → Type 0
AreWhole burst t = burst % (8 * cell_size t) ≡ 0
