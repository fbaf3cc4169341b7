-- What crates above cite: look-ups of names.
use Rattle.std.proofs.Common.{◌≡◌, ℕ, List, map}
use Rattle.std.specs.Prelude.{position}
use Rattle.soda_words.proofs.CallerLemmas as words
use Rattle.soda_words.specs.Names.{is_word}

-- a place among names is one among what has them
pub placed : {X : Type 0} (name : X → List ℕ) (w : List ℕ) (xs : List X) → position (is_word w) (map name xs) ≡ position (λ x. is_word w (name x)) xs
placed name w xs = words.position-map name (is_word w) xs
