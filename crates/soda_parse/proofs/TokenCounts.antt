-- How the tokens of a formula count, and how many brackets are open at once.
use Rattle.std.proofs.Common.{◌≡◌, ℕ, ◌+◌, ◌≤◌, ◌==◌, Bool, true, false, List, [], ◌∷◌, refl, ap, arith}
use Rattle.std.specs.Prelude.{max, if◌then◌else◌}
use Rattle.soda_words.specs.Names.{is_cast_word, is_reserved}
use Rattle.soda_words.specs.declared.symbol.Symbol.{Symbol}
use Rattle.soda_words.specs.declared.symbol.Symbol.TheVariants.{Comma}
use Rattle.soda_words.specs.declared.token.Placed.{Placed}
use Rattle.soda_words.specs.declared.token.Token.TheVariants.{Sign}
use Rattle.soda_formula.specs.Grammar.{symbol_on, name_on}
use Rattle.soda_formula.specs.Reading.{Place, outside, behind_name, counted_tokens_from, open_behind, place_behind}

-- behind a name that offsets may follow, what comes counts as it does elsewhere
abbrev pub Closed : List Placed → Type 0
Closed rest = counted_tokens_from behind_name rest ≡ counted_tokens_from outside rest

-- the most brackets that are open at once, where so many are open before
abbrev pub peak : ℕ → List Placed → ℕ
peak k [] = k
peak k (t ∷ ts) = max k (peak (open_behind k t.token) ts)

-- at least as many brackets are open at once as are open before
pub peak_least : (k : ℕ) (ts : List Placed) → k ≤ peak k ts
peak_least k [] = omega arith
peak_least k (t ∷ ts) = omega arith

-- a symbol that is no bracket
pub record IsPassing (s : Symbol) : Type 0 where
  pub level : (k : ℕ) → open_behind k (Sign s) ≡ k
  pub behind : place_behind behind_name (Sign s) ≡ outside

-- a symbol is no bracket where it changes neither how many are open nor how tokens count
pub passes : (s : Symbol) → ((k : ℕ) → open_behind k (Sign s) ≡ k) → place_behind behind_name (Sign s) ≡ outside → IsPassing s
passes s h e = record { level = h; behind = e }

-- behind a symbol that is no bracket, what comes counts as it does elsewhere
pub passing_closed : (line : ℕ) (s : Symbol) (rest : List Placed) → IsPassing s → Closed (symbol_on line s ∷ rest)
passing_closed line s rest pass = ap (λ (q : Place). 1 + counted_tokens_from q rest) pass.behind

-- behind a reserved word the place is outside
pub reserved_counts : (line : ℕ) (text : List ℕ) (ts : List Placed) → is_reserved text ≡ true →
    counted_tokens_from outside (name_on line text ∷ ts) ≡ 1 + counted_tokens_from outside ts
reserved_counts line text ts e = ap (λ (b : Bool). 1 + counted_tokens_from (if b then outside else behind_name) ts) e

-- behind a name that is not reserved, offsets may follow
pub free_counts : (line : ℕ) (text : List ℕ) (ts : List Placed) → is_reserved text ≡ false →
    counted_tokens_from outside (name_on line text ∷ ts) ≡ 1 + counted_tokens_from behind_name ts
free_counts line text ts e = ap (λ (b : Bool). 1 + counted_tokens_from (if b then outside else behind_name) ts) e

-- 1, or 0 for none
abbrev pub one_if_some : ℕ → ℕ
one_if_some n = if n == 0 then 0 else 1

-- a comma is no bracket
pub comma_passes : IsPassing Comma
comma_passes = passes Comma (λ k. refl) refl

-- the words of casts are reserved
pub cast_reserved : (text : List ℕ) → is_cast_word text ≡ true → is_reserved text ≡ true
cast_reserved text e = rw e refl
