-- Which words are names.
use Rattle.std.specs.Prelude.{ℕ, Bool, false, not, ◌&&◌, ◌||◌, nat_le, nat_lt, ◌==◌, List, [], ◌∷◌, length, Option, Some, None, codes, if◌then◌else◌}
use Rattle.std.specs.List.{list_all}
use Rattle.soda_words.specs.Limits.{most_name}
use Rattle.soda_words.specs.OperatorTable.{binary_row, unary_row}
use Rattle.soda_words.specs.declared.operators.BinOp.TheVariants.{Min, Max}
use Rattle.soda_words.specs.declared.operators.UnOp.TheVariants.{Abs}

abbrev pub is_letter : ℕ → Bool
is_letter b = (nat_le 65 b && nat_le b 90) || (nat_le 97 b && nat_le b 122)

abbrev pub is_digit : ℕ → Bool
is_digit b = nat_le 48 b && nat_le b 57

-- what a name begins with
abbrev pub begins_name : ℕ → Bool
begins_name b = is_letter b || b == 95

-- what a name goes on with
abbrev pub is_word_byte : ℕ → Bool
is_word_byte b = begins_name b || is_digit b

-- a letter or `_`, then letters, digits and `_`, at most 64 bytes
abbrev pub is_name : List ℕ → Bool
is_name [] = false
is_name (b ∷ bs) = begins_name b && list_all is_word_byte bs && nat_lt (length bs) most_name

-- what follows this front, if the bytes begin with it
abbrev pub behind : List ℕ → List ℕ → Option (List ℕ)
behind [] bs = Some bs
behind (p ∷ ps) [] = None
behind (p ∷ ps) (b ∷ bs) = if p == b then behind ps bs else None

abbrev pub is_some_digits : List ℕ → Bool
is_some_digits [] = false
is_some_digits (b ∷ bs) = is_digit b && list_all is_digit bs

-- the word, then one or more digits
abbrev pub is_numbered : List ℕ → List ℕ → Bool
is_numbered word bs = elim (behind word bs) [ None ↦ false | Some ds ↦ is_some_digits ds ]

-- the word, then digits or nothing
abbrev pub may_be_numbered : List ℕ → List ℕ → Bool
may_be_numbered word bs = elim (behind word bs) [ None ↦ false | Some ds ↦ list_all is_digit ds ]

-- the words that stand for types
abbrev pub is_cast_word : List ℕ → Bool
is_cast_word bs =
    is_numbered (codes "int") bs || is_numbered (codes "uint") bs || may_be_numbered (codes "float") bs
    || may_be_numbered (codes "half") bs || may_be_numbered (codes "double") bs

-- the bytes are this word
abbrev pub is_word : List ℕ → List ℕ → Bool
is_word word bs = elim (behind word bs) [ None ↦ false | Some rest ↦ length rest == 0 ]

-- the words that no tensor or param is called
abbrev pub is_reserved : List ℕ → Bool
is_reserved bs =
    is_cast_word bs || is_word (binary_row Min).spelling bs || is_word (binary_row Max).spelling bs
    || is_word (unary_row Abs).spelling bs || is_word (codes "select") bs

-- a name that a tensor or a param may have
abbrev pub is_free_name : List ℕ → Bool
is_free_name bs = is_name bs && not (is_reserved bs)
