-- The numbers that words of a params file write.
use Rattle.std.specs.Prelude.{ℕ, Bool, ◌&&◌, ◌==◌, List, length, ℤ}
use Rattle.std.specs.List.{list_all}
use Rattle.soda_words.specs.IntType.{IntType}
use Rattle.soda_words.specs.Names.{is_some_digits}
use Rattle.soda_words.specs.Tokens.{value_behind}
use Rattle.array_bytes.specs.Values.{begins_minus, behind_sign, is_of, with_sign}
use Rattle.soda_ir.specs.Points.{size}
use Rattle.soda_ir.specs.Program.{PlainParam}

-- an optional `-` and one or more digits, however many
abbrev pub is_decimal : List ℕ → Bool
is_decimal word = is_some_digits (behind_sign word)

-- the number that a decimal writes
abbrev pub decimal_value : List ℕ → ℤ
decimal_value word = with_sign (begins_minus word) (value_behind 0 (behind_sign word))

-- a word writes a number of the type
abbrev pub is_value_of : IntType → List ℕ → Bool
is_value_of t word = is_decimal word && is_of t (decimal_value word)

-- words are the values of a param: one for each of its places, each a number of its type
abbrev pub are_values : PlainParam → List (List ℕ) → Bool
are_values p words = length words == size p.sizes && list_all (is_value_of p.ty) words
