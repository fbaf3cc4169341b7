-- The values that a params file gives, and the line at which it is refused.
use Rattle.std.specs.Prelude.{◌≡◌, ℕ, suc, ◌<◌, ◌≤◌, Bool, true, false, not, ◌&&◌, List, [], ◌∷◌, ◌++◌, map, length, take, slice_index_or, Option, Some, None, option_map, ℤ, if◌then◌else◌}
use Rattle.std.specs.List.{list_any}
use Rattle.soda_words.specs.Names.{is_word}
use Rattle.soda_ir.specs.Program.{PlainParam}
use Rattle.param_lines.specs.Lines.{rows_of}
use Rattle.param_lines.specs.Values.{are_values, decimal_value}

-- the bytes of a params file, at the most
abbrev pub most_params : ℕ
most_params = 8388608

-- a line gives a param its values: its words are the param's name and the values
abbrev pub is_of_param : List PlainParam → (name : List ℕ) → (words : List (List ℕ)) → Bool
is_of_param ps name words = list_any (λ p. is_word name p.name && are_values p words) ps

-- the first word of a line is this name
abbrev pub is_named : List ℕ → List (List ℕ) → Bool
is_named name [] = false
is_named name (first ∷ words) = is_word name first

-- a line is fine behind those before it: it is of white space only, or it gives a param its values that none before
-- names
abbrev pub is_fine : List PlainParam → (before : List (List (List ℕ))) → List (List ℕ) → Bool
is_fine ps before [] = true
is_fine ps before (name ∷ words) = is_of_param ps name words && not (list_any (is_named name) before)

-- the line of this number, from 0, is fine behind those before it
abbrev pub is_fine_at : List PlainParam → List (List (List ℕ)) → ℕ → Bool
is_fine_at ps rows i = is_fine ps (take i rows) (slice_index_or rows i [])

-- what stands behind this name in the first line that begins with it
abbrev pub words_of : List ℕ → List (List (List ℕ)) → Option (List (List ℕ))
words_of name [] = None
words_of name ([] ∷ rows) = words_of name rows
words_of name ((first ∷ words) ∷ rows) = if is_word name first then Some words else words_of name rows

-- the values that the lines give a param, if one of them begins with its name
abbrev pub values_at : List (List (List ℕ)) → PlainParam → Option (List ℤ)
values_at rows p = option_map (λ words. map decimal_value words) (words_of p.name rows)

-- lists one behind the other, if all of them are there
abbrev pub joined : List (Option (List ℤ)) → Option (List ℤ)
joined [] = Some []
joined (None ∷ rest) = None
joined (Some values ∷ rest) = option_map (λ more. values ++ more) (joined rest)

-- the values of all params in order, if each has a line
abbrev pub values_of : List PlainParam → List (List (List ℕ)) → Option (List ℤ)
values_of ps rows = joined (map (values_at rows) ps)

-- each line is fine behind those before it
pub record AreAllFine (ps : List PlainParam) (rows : List (List (List ℕ))) : Type 0 where
  pub each : (i : ℕ) → i < length rows → is_fine_at ps rows i ≡ true

-- the line of this number, from 1, is the first that isn't fine
pub record IsFirstWrong (ps : List PlainParam) (rows : List (List (List ℕ))) (line : ℕ) : Type 0 where
  pub place : ℕ
  pub number : line ≡ suc place
  pub within : place < length rows
  pub wrong : is_fine_at ps rows place ≡ false
  pub fine_before : (j : ℕ) → j < place → is_fine_at ps rows j ≡ true

-- the bytes are a params file of these params, with these values in the order of the params
pub record GivesParams (ps : List PlainParam) (bytes : List ℕ) (values : List ℤ) : Type 0 where
  pub short : length bytes ≤ most_params
  pub fine : AreAllFine ps (rows_of bytes)
  pub whole : values_of ps (rows_of bytes) ≡ Some values

-- the bytes are no params file of these params: the number of the first line that is refused, from 1, and 0 where the
-- file is too long or a param has no line
pub data RefusesLine (ps : List PlainParam) (bytes : List ℕ) : ℕ → Type 0 where
  too_long : most_params < length bytes → RefusesLine ps bytes 0
  wrong_line : {line : ℕ} → length bytes ≤ most_params → IsFirstWrong ps (rows_of bytes) line →
      RefusesLine ps bytes line
  no_line : length bytes ≤ most_params → AreAllFine ps (rows_of bytes) → values_of ps (rows_of bytes) ≡ None →
      RefusesLine ps bytes 0
