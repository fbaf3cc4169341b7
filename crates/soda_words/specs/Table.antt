-- Where names first stand in a list.
use Rattle.std.specs.Prelude.{◌≡◌, ℕ, List, position, bytes_eq}
use Rattle.std.specs.Borrow.{Bor}
use Rattle.std.specs.Map.{lookup}
use Rattle.soda_words.specs.Names.{is_word}

-- the entries give each of these names its first place, and no other word a place
abbrev pub GivesFirstPlaces : List (Bor (List ℕ) × ℕ) → List (List ℕ) → Type 0
GivesFirstPlaces entries names =
    (w : List ℕ) → lookup (λ k. bytes_eq w k.now) entries ≡ position (is_word w) names
