-- Loops over the front of a list of bytes.
use Rattle.std.proofs.Common.{◌≡◌, ℕ, suc, ◌+◌, ◌-◌, ◌*◌, ◌<◌, ◌≤◌, ◌^◌, Bool, true, List, [], ◌∷◌, ◌++◌, length, take, drop, get_or, ap, arith, drop-cons}
use Rattle.std.specs.List.{list_all}
use Rattle.soda_words.specs.Names.{is_digit}
use Rattle.soda_words.specs.Tokens.{first_line, first_word, value_behind, end_line, end_line_from, not_ascii, not_ascii_from, tokens_behind, tokens_of}
use Rattle.soda_words.specs.declared.token.Placed.{Placed}

-- the first bytes are word bytes
pub record IsScanned (count : ℕ) (bytes : List ℕ) : Type 0 where
  pub within : count ≤ length bytes
  pub front : take count bytes ++ first_word (drop count bytes) ≡ first_word bytes

-- the first bytes are no line feeds, and the line goes on behind them
pub record IsBeforeFeed (count : ℕ) (bytes : List ℕ) : Type 0 where
  pub within : count ≤ length bytes
  pub value : count + length (first_line (drop count bytes)) ≡ length (first_line bytes)

-- the line of the byte of this number
pub record IsAtLine (index line : ℕ) (text : List ℕ) : Type 0 where
  pub small : line ≤ index + 1
  pub value : end_line_from line (drop index text) ≡ end_line text

-- the line of the byte of this number, and whether it stands in a comment, where all before it are fine
pub record IsAtByte (index line : ℕ) (in_comment : Bool) (text : List ℕ) : Type 0 where
  pub small : line ≤ index + 1
  pub value : not_ascii_from in_comment line (drop index text) ≡ not_ascii text

-- the tokens before the rest are found
pub record AreRead (found : List Placed) (line : ℕ) (rest text : List ℕ) : Type 0 where
  pub small : line + length rest ≤ length text + 1
  pub value : found ++ tokens_behind 0 line rest ≡ tokens_of text

-- the digits so far write the number, and the others are digits too
pub record IsValued (index number : ℕ) (digits : List ℕ) : Type 0 where
  pub value : value_behind number (drop index digits) ≡ value_behind 0 digits
  pub others : list_all is_digit (drop index digits) ≡ true

-- more digits make no smaller number
pub grows : (n : ℕ) (ds : List ℕ) → n ≤ value_behind n ds
grows n [] = omega arith
grows n (c ∷ cs) = omega (arith, grows (n * 10 + (c - 48)) cs)

pub past_end : (i n : ℕ) (digits : List ℕ) → IsValued i n digits → i < length digits → 2 ^ 64 ≤ n * 10 + (get_or digits i 0 - 48) → 2 ^ 64 ≤ value_behind 0 digits
past_end i n digits v lt big =
    let step : value_behind n (drop i digits) ≡ value_behind (n * 10 + (get_or digits i 0 - 48)) (drop (suc i) digits) = ap (value_behind n) (drop-cons digits i 0 lt) in
    omega (arith, grows (n * 10 + (get_or digits i 0 - 48)) (drop (suc i) digits), step, v.value)
