-- Laws of the grammar of formulas.
use Rattle.std.proofs.Common.{◌≡◌, ℕ, List, [], ◌∷◌, ◌++◌, Option, Some, None, refl, sym, ◌∙◌, ap}
use Rattle.soda_words.specs.declared.symbol.Symbol.TheVariants.{EqualSign}
use Rattle.soda_words.specs.declared.token.Placed.{Placed}
use Rattle.soda_formula.specs.Terms.{Term}
use Rattle.soda_formula.specs.Grammar.{IsFormula, symbol_on, name_on}
use Rattle.soda_formula.specs.Reading.{BeginsFormula}
use Rattle.soda_formula.specs.machine.Steps.{Frame, Mode, wanted, whole, named, indexed, State, feed, feeds, then_feed, operand, start, ends, finished}
use Rattle.soda_formula.proofs.Complete.{feeds-append, feeds-none, formula-ends}
use Rattle.soda_formula.proofs.Viable.{refused-begins}

-- some tokens are at most one formula
pub formula_is_one : (ts : List Placed) (a b : Term) → IsFormula ts a → IsFormula ts b → a ≡ b
formula_is_one ts a b x y = let d : Some a ≡ Some b = sym (formula-ends ts a x) ∙ formula-ends ts b y in cc

-- no tokens are no formula
pub formula_is_some : (a : Term) → IsFormula [] a → ⊥
formula_is_some a x = let d : None ≡ Some a = formula-ends [] a x in cc

name-refused : (m : Mode) (fs : List Frame) (line : ℕ) (w : List ℕ) (a : Term) → finished (operand m) fs ≡ Some a → feed m fs (name_on line w) ≡ None
name-refused (whole t) fs line w a e = refl
name-refused (named v) fs line w a e = refl
name-refused (indexed v is) fs line w a e = refl
name-refused _ fs line w a e = cc

name-ends : (o : Option State) (line : ℕ) (w : List ℕ) (a : Term) → ends o ≡ Some a → then_feed o (name_on line w) ≡ None
name-ends None line w a e = refl
name-ends (Some s) line w a e = name-refused s.mode s.frames line w a e

-- a whole formula goes on with no name
pub name_ends_formula : (ts : List Placed) (a : Term) (line : ℕ) (w : List ℕ) → IsFormula ts a → BeginsFormula (ts ++ name_on line w ∷ []) → ⊥
name_ends_formula ts a line w x =
    refused-begins (ts ++ name_on line w ∷ []) (feeds-append start ts (name_on line w ∷ []) ∙ name-ends (feeds start ts) line w a (formula-ends ts a x))

equals-refused : (m : Mode) (fs : List Frame) (line : ℕ) → feed m fs (symbol_on line EqualSign) ≡ None
equals-refused wanted fs line = refl
equals-refused _ fs line = refl

equals-ends : (o : Option State) (line : ℕ) → then_feed o (symbol_on line EqualSign) ≡ None
equals-ends None line = refl
equals-ends (Some s) line = equals-refused s.mode s.frames line

-- `=` stands in no formula
pub no_equals_sign : (before after : List Placed) (line : ℕ) → BeginsFormula (before ++ symbol_on line EqualSign ∷ after) → ⊥
no_equals_sign before after line =
    refused-begins (before ++ symbol_on line EqualSign ∷ after) (feeds-append start before (symbol_on line EqualSign ∷ after)
    ∙ ap (λ x. feeds x after) (equals-ends (feeds start before) line) ∙ feeds-none after)
