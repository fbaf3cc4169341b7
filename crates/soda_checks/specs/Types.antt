-- The integer types that words stand for.
use Rattle.std.specs.Prelude.{ℕ, ◌&&◌, Bool, true, false, nat_le, List, ◌∷◌, [], codes, Option, Some, None, is_some, option_map, if◌then◌else◌}
use Rattle.std.specs.List.{list_any}
use Rattle.soda_words.specs.IntType.{IntType}
use Rattle.soda_words.specs.Names.{behind}
use Rattle.soda_words.specs.Tokens.{is_number, or_else, value_behind}

-- the word begins with the word of a float type
abbrev pub is_float : List ℕ → Bool
is_float w = list_any (λ front. is_some (behind front w)) (codes "float" ∷ codes "half" ∷ codes "double" ∷ [])

-- digits that write a number from the least to 64, with no leading zero
abbrev pub width_of : ℕ → List ℕ → Option ℕ
width_of least ds =
    if (is_number ds && nat_le least (value_behind 0 ds) && nat_le (value_behind 0 ds) 64) then Some (value_behind 0 ds)
    else None

-- the type of this sign whose word has these digits behind its front
abbrev pub type_behind : Bool → ℕ → Option (List ℕ) → Option IntType
type_behind signed least None = None
type_behind signed least (Some ds) = option_map (λ n. record { signed = signed; bits = n }) (width_of least ds)

-- the integer type that a word stands for: `int` and a width from 2, or `uint` and one from 1, up to 64
abbrev pub type_of : List ℕ → Option IntType
type_of w = or_else (type_behind true 2 (behind (codes "int") w)) (type_behind false 1 (behind (codes "uint") w))
