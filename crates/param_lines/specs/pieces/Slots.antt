-- What is kept of the params while a file is read: the values of each, where its line was read.
use Rattle.std.specs.Prelude.{ℕ, Bool, true, false, not, ◌&&◌, List, [], ◌∷◌, map, Option, Some, None, is_some, option_map, ℤ, if◌then◌else◌}
use Rattle.std.specs.List.{list_any}
use Rattle.soda_words.specs.IntType.{IntType}
use Rattle.soda_words.specs.Names.{is_word}
use Rattle.soda_ir.specs.Program.{PlainParam}
use Rattle.param_lines.specs.Values.{are_values, decimal_value, is_value_of}

-- the number of the type that a word writes, if it writes one
abbrev pub value_in : IntType → List ℕ → Option ℤ
value_in t word = if is_value_of t word then Some (decimal_value word) else None

-- a value before others, if all are there
abbrev pub with_first : Option ℤ → Option (List ℤ) → Option (List ℤ)
with_first None more = None
with_first (Some v) more = option_map (λ vs. v ∷ vs) more

-- the numbers of the type that words write, if each writes one
abbrev pub values_in : IntType → List (List ℕ) → Option (List ℤ)
values_in t [] = Some []
values_in t (word ∷ words) = with_first (value_in t word) (values_in t words)

-- the values of a param that words are, if they are some
abbrev pub values_for : PlainParam → List (List ℕ) → Option (List ℤ)
values_for p words = if are_values p words then Some (map decimal_value words) else None

-- a slot takes these words
abbrev pub is_taken : PlainParam → Option (List ℤ) → List (List ℕ) → Bool
is_taken p slot words = not (is_some slot) && are_values p words

-- the slots take the words of a line
abbrev pub are_taken : List PlainParam → List (Option (List ℤ)) → List (List ℕ) → Bool
are_taken ps slots [] = true
are_taken [] slots (name ∷ words) = false
are_taken (p ∷ ps) [] (name ∷ words) = false
are_taken (p ∷ ps) (slot ∷ slots) (name ∷ words) =
    if is_word name p.name then is_taken p slot words else are_taken ps slots (name ∷ words)

-- the slots with the words of a line
abbrev pub slots_with : List PlainParam → List (Option (List ℤ)) → List (List ℕ) → List (Option (List ℤ))
slots_with ps slots [] = slots
slots_with [] slots (name ∷ words) = slots
slots_with (p ∷ ps) [] (name ∷ words) = []
slots_with (p ∷ ps) (slot ∷ slots) (name ∷ words) =
    if is_word name p.name then Some (map decimal_value words) ∷ slots else slot ∷ slots_with ps slots (name ∷ words)

-- no two params have the same name
abbrev pub are_apart : List PlainParam → Bool
are_apart [] = true
are_apart (p ∷ ps) = not (list_any (λ q. is_word p.name q.name) ps) && are_apart ps
