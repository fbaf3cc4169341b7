-- How a formula is read from the front of tokens: what begins one, which are too large, and the first wrong token.
use Rattle.std.specs.Prelude.{◌⊎◌, ℕ, suc, ◌+◌, ◌-◌, ◌<◌, ◌≤◌, List, [], ◌∷◌, ◌++◌, length, take, if◌then◌else◌}
use Rattle.soda_words.specs.Limits.{most_brackets, most_tokens}
use Rattle.soda_words.specs.Names.{is_reserved}
use Rattle.soda_words.specs.declared.symbol.Symbol.TheVariants.{MinusSign, OpenRound, CloseRound, OpenSquare, CloseSquare}
use Rattle.soda_words.specs.declared.token.Placed.{Placed}
use Rattle.soda_words.specs.declared.token.Token.{Token}
use Rattle.soda_words.specs.declared.token.Token.TheVariants.{Name, Sign}
use Rattle.soda_formula.specs.Terms.{Term}
use Rattle.soda_formula.specs.Grammar.{IsFormula}

-- how many brackets are open behind a token, where so many were before it
abbrev pub open_behind : ℕ → Token → ℕ
open_behind k (Sign OpenRound) = suc k
open_behind k (Sign OpenSquare) = suc k
open_behind k (Sign CloseRound) = k - 1
open_behind k (Sign CloseSquare) = k - 1
open_behind k _ = k

-- how many brackets are open behind these tokens, where so many were before them
abbrev pub open_brackets_from : ℕ → List Placed → ℕ
open_brackets_from k [] = k
open_brackets_from k (t ∷ ts) = open_brackets_from (open_behind k t.token) ts

-- how many brackets are open behind these tokens
abbrev pub open_brackets : List Placed → ℕ
open_brackets ts = open_brackets_from 0 ts

-- a token as part of a formula: what it opens or is
pub data Place : Type 0 where
  -- not in offsets, and not behind a tensor's name
  outside : Place
  -- behind a name that offsets may follow
  behind_name : Place
  -- in offsets
  in_offsets : Place

-- the place behind a token that is in no offsets
abbrev pub place_outside : Token → Place
place_outside (Name w) = if is_reserved w then outside else behind_name
place_outside _ = outside

-- the place behind a token
abbrev pub place_behind : Place → Token → Place
place_behind outside t = place_outside t
place_behind behind_name (Sign OpenRound) = in_offsets
place_behind behind_name t = place_outside t
place_behind in_offsets (Sign CloseRound) = outside
place_behind in_offsets t = in_offsets

-- a token counts 1, but a minus sign in offsets counts nothing
abbrev pub counted : Place → Token → ℕ
counted in_offsets (Sign MinusSign) = 0
counted _ _ = 1

-- how many tokens count, where the first stands in this place
abbrev pub counted_tokens_from : Place → List Placed → ℕ
counted_tokens_from p [] = 0
counted_tokens_from p (t ∷ ts) = counted p t.token + counted_tokens_from (place_behind p t.token) ts

-- how many tokens of a formula, or of the beginning of one, count: all but the minus signs of offsets
abbrev pub counted_tokens : List Placed → ℕ
counted_tokens ts = counted_tokens_from outside ts

-- the tokens begin some formula
abbrev pub BeginsFormula : List Placed → Type 0
BeginsFormula ts = (rest : List Placed) × (a : Term) × IsFormula (ts ++ rest) a

-- a formula, or the beginning of one, that has too many brackets open or too many tokens by now
abbrev pub IsLarge : List Placed → Type 0
IsLarge part = (most_brackets < open_brackets part) ⊎ (most_tokens < counted_tokens part)

-- nothing is wrong with these tokens as the beginning of a formula
pub record IsGoodPart (part : List Placed) : Type 0 where
  pub begins : BeginsFormula part
  pub small : IsLarge part → ⊥

-- a formula of n tokens stands at the front, and it ends there: with the next token no formula begins
pub record ReadsFormula (ts : List Placed) (n : ℕ) (a : Term) : Type 0 where
  pub within : n ≤ length ts
  pub whole : IsFormula (take n ts) a
  pub small : (j : ℕ) → j ≤ n → IsLarge (take j ts) → ⊥
  pub ended : suc n ≤ length ts → BeginsFormula (take (suc n) ts) → ⊥

-- the first n tokens begin a formula and are not too large, and with the next one, if there is one, this is not so; the
-- first n are no whole formula, unless one goes on with the next token
pub record StopsFormula (ts : List Placed) (n : ℕ) : Type 0 where
  pub within : n ≤ length ts
  pub good : (j : ℕ) → j ≤ n → IsGoodPart (take j ts)
  pub wrong : suc n ≤ length ts → IsGoodPart (take (suc n) ts) → ⊥
  pub unfinished : (a : Term) → IsFormula (take n ts) a → (suc n ≤ length ts) × BeginsFormula (take (suc n) ts)
