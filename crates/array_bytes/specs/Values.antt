-- The numbers that the bytes of one cell stand for.
use Rattle.std.specs.Prelude.{ℕ, Bool, false, ◌&&◌, ◌==◌, nat_le, if◌then◌else◌, List, [], ◌∷◌, length, ℤ, pos, neg_ℤ, int_le, int_lt}
use Rattle.std.specs.Prelude.{Option, Some, None}
use Rattle.byteorder.specs.Endian.{little_number, twos_complement}
use Rattle.soda_words.specs.IntType.{IntType}
use Rattle.soda_words.specs.Names.{is_some_digits}
use Rattle.soda_words.specs.Tokens.{value_behind}
use Rattle.int_types.specs.Ranges.{least, past}
use Rattle.array_bytes.specs.Limits.{most_run}
use Rattle.array_bytes.specs.Sizes.{cell_size}

-- a minus sign stands first
abbrev pub begins_minus : List ℕ → Bool
begins_minus [] = false
begins_minus (b ∷ bs) = b == 45

-- what stands behind the sign, if there is one
abbrev pub behind_sign : List ℕ → List ℕ
behind_sign [] = []
behind_sign (b ∷ bs) = if b == 45 then bs else b ∷ bs

-- a number below 0 where the sign is there
abbrev pub with_sign : Bool → ℕ → ℤ
with_sign minus n = if minus then neg_ℤ (pos n) else pos n

-- a cell of a text: an optional `-` and one or more digits, at most 64 bytes
unfoldable pub is_cell : List ℕ → Bool
is_cell run = nat_le (length run) most_run && is_some_digits (behind_sign run)

-- the number that a run writes in decimal, if it is a cell
unfoldable pub text_value : List ℕ → Option ℤ
text_value run = if is_cell run then Some (with_sign (begins_minus run) (value_behind 0 (behind_sign run))) else None

-- the number that raw bytes are, least significant byte first, in two's complement where the type is signed
unfoldable pub raw_value : IntType → List ℕ → ℤ
raw_value t bytes =
    if t.signed then twos_complement (cell_size t) (little_number (cell_size t) bytes) else
    pos (little_number (cell_size t) bytes)

-- the number is one of the type's, as a test
unfoldable pub is_of : IntType → ℤ → Bool
is_of t v = int_le (least t) v && int_lt v (past t)
