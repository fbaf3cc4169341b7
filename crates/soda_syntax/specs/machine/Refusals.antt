-- Where tokens leave the grammar, for the tokens of a text and the line of its end.
use Rattle.std.specs.Prelude.{◌≡◌, ◌⊎◌, ℕ, List, length, slice_get, Some}
use Rattle.soda_words.specs.declared.token.Placed.{Placed}
use Rattle.soda_formula.specs.Statements.{PlainStatement}
use Rattle.soda_syntax.specs.Grammar.{AreStatements}
use Rattle.soda_syntax.specs.SyntaxError.{IsFirstWrong, IsGoodUpTo}

-- the line of the first wrong token
pub record IsWrongIn (ts : List Placed) (line : ℕ) : Type 0 where
  pub number : ℕ
  pub token : Placed
  pub there : slice_get ts number ≡ Some token
  pub first : IsFirstWrong ts number
  pub is : line ≡ token.line

-- no token is wrong, and still the tokens are no text: the line is that of the end
pub record EndsIn (ts : List Placed) (end line : ℕ) : Type 0 where
  pub good : IsGoodUpTo (length ts) ts
  pub no_text : (ss : List PlainStatement) → AreStatements ts ss → ⊥
  pub is : line ≡ end

-- tokens are refused, at this line
abbrev pub IsRefusedIn : List Placed → ℕ → ℕ → Type 0
IsRefusedIn ts end line = IsWrongIn ts line ⊎ EndsIn ts end line
