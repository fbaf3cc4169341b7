-- The tokens of a text, with their lines.
use Rattle.std.specs.Prelude.{ℕ, zero, suc, ◌+◌, ◌-◌, ◌*◌, ◌^◌, Bool, false, not, ◌&&◌, ◌||◌, ◌==◌, nat_le, nat_lt, List, [], ◌∷◌, ◌++◌, length, Option, Some, None, if◌then◌else◌}
use Rattle.soda_words.specs.Names.{is_name, is_some_digits, is_word_byte}
use Rattle.soda_words.specs.Symbols.{double_of, single_of}
use Rattle.soda_words.specs.declared.symbol.Symbol.{Symbol}
use Rattle.soda_words.specs.declared.token.Placed.{Placed}
use Rattle.soda_words.specs.declared.token.Token.{Token}
use Rattle.soda_words.specs.declared.token.Token.TheVariants.{Name, Number, Sign, Bad}

-- tab, line feed, carriage return and blank
abbrev pub is_white : ℕ → Bool
is_white b = b == 9 || b == 10 || b == 13 || b == 32

-- the bytes before the first line feed
abbrev pub first_line : List ℕ → List ℕ
first_line [] = []
first_line (b ∷ bs) = if b == 10 then [] else b ∷ first_line bs

-- the letters, digits and `_` that the bytes begin with
abbrev pub first_word : List ℕ → List ℕ
first_word [] = []
first_word (b ∷ bs) = if is_word_byte b then b ∷ first_word bs else []

-- the number that digits write behind those of n
abbrev pub value_behind : ℕ → List ℕ → ℕ
value_behind n [] = n
value_behind n (d ∷ ds) = value_behind (n * 10 + (d - 48)) ds

abbrev pub begins_with_zero : List ℕ → Bool
begins_with_zero [] = false
begins_with_zero (b ∷ bs) = b == 48

-- `0`, or a digit from 1 to 9 and more digits, below 2 ^ 64
abbrev pub is_number : List ℕ → Bool
is_number ds = is_some_digits ds && (not (begins_with_zero ds) || length ds == 1) && nat_lt (value_behind 0 ds) (2 ^ 64)

-- the one token that a run of letters, digits and `_` is
abbrev pub word_token : List ℕ → Token
word_token w = if is_name w then Name w else (if is_number w then Number (value_behind 0 w) else Bad)

-- the first of two, if it is there, and else the second
abbrev pub or_else : {A : Type 0} → Option A → Option A → Option A
or_else None b = b
or_else (Some a) b = Some a

-- the token of a symbol, and a bad one where there is none
abbrev pub sign_or_bad : Option Symbol → Token
sign_or_bad None = Bad
sign_or_bad (Some s) = Sign s

-- a front of some bytes: the token that it is, if any, and how many bytes it has behind its first
pub record Front : Type 0 where
  pub token : Option Token
  pub more : ℕ

-- a front of one byte
abbrev pub single_front : ℕ → Front
single_front b = record { token = Some (sign_or_bad (single_of b)); more = 0 }

-- a front of two bytes where they are a symbol, and else of one
abbrev pub double_front : ℕ → Option Symbol → Front
double_front b None = single_front b
double_front b (Some s) = record { token = Some (Sign s); more = 1 }

-- the longest symbol at the front, or a bad byte
abbrev pub symbol_front : ℕ → List ℕ → Front
symbol_front b [] = single_front b
symbol_front b (c ∷ bs) = double_front b (double_of b c)

-- what stands at the front of a byte and those behind it: white space, a comment, a word, a symbol or a bad byte
unfoldable pub front_of : ℕ → List ℕ → Front
front_of b bs =
    if is_white b then record { token = None; more = 0 } else
    (if b == 35 then record { token = None; more = length (first_line bs) } else
    (if is_word_byte b then record { token = Some (word_token (b ∷ first_word bs)); more = length (first_word bs) } else
    symbol_front b bs))

-- the same of a list of bytes
abbrev pub front_at : List ℕ → Front
front_at [] = record { token = None; more = 0 }
front_at (b ∷ bs) = front_of b bs

-- the token on its line, if there is one
abbrev pub placed : ℕ → Option Token → List Placed
placed line None = []
placed line (Some t) = record { line = line; token = t } ∷ []

-- the number of the line of the next byte
abbrev pub line_behind : ℕ → ℕ → ℕ
line_behind line b = if b == 10 then suc line else line

-- the tokens of what follows the first bytes, so many of which belong to what was read, where the first byte is on
-- this line
unfoldable pub tokens_behind : (belonging line : ℕ) → List ℕ → List Placed
tokens_behind belonging line [] = []
tokens_behind zero line (b ∷ bs) =
    placed line (front_of b bs).token ++ tokens_behind (front_of b bs).more (line_behind line b) bs
tokens_behind (suc belonging) line (b ∷ bs) = tokens_behind belonging (line_behind line b) bs

-- the tokens of a text, each with its line, counted from 1
abbrev pub tokens_of : List ℕ → List Placed
tokens_of bs = tokens_behind 0 1 bs

-- the number of the line where the bytes end, where they begin on this line
abbrev pub end_line_from : ℕ → List ℕ → ℕ
end_line_from line [] = line
end_line_from line (b ∷ bs) = end_line_from (line_behind line b) bs

-- the number of the line of the end of a text
abbrev pub end_line : List ℕ → ℕ
end_line bs = end_line_from 1 bs

-- the byte behind this one stands in a comment
abbrev pub in_comment_behind : Bool → ℕ → Bool
in_comment_behind c b = not (b == 10) && (c || b == 35)

-- the line of the first byte of 128 or more that stands in no comment, where the first byte stands in one or not, on
-- this line
abbrev pub not_ascii_from : (in_comment : Bool) (line : ℕ) → List ℕ → Option ℕ
not_ascii_from c line [] = None
not_ascii_from c line (b ∷ bs) =
    if (nat_le 128 b && not c) then Some line else
    not_ascii_from (in_comment_behind c b) (line_behind line b) bs

-- the line of the first byte of 128 or more outside comments
abbrev pub not_ascii : List ℕ → Option ℕ
not_ascii bs = not_ascii_from false 1 bs
