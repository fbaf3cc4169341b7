-- Where a text leaves the grammar or makes a formula too large.
use Rattle.std.specs.Prelude.{◌≡◌, ◌⊎◌, ℕ, suc, ◌≤◌, List, ◌++◌, length, take, slice_get, Some, ℤ}
use Rattle.soda_words.specs.Tokens.{tokens_of, end_line}
use Rattle.soda_words.specs.declared.token.Placed.{Placed}
use Rattle.soda_words.specs.declared.token.Word.{Word}
use Rattle.soda_formula.specs.Reading.{BeginsFormula, IsLarge}
use Rattle.soda_formula.specs.Statements.{PlainStatement}
use Rattle.soda_syntax.specs.Grammar.{IsLocalHead, IsOutputHead, AreStatements}

-- the tokens begin some text of the grammar
abbrev pub BeginsText : List Placed → Type 0
BeginsText ts = (rest : List Placed) × (ss : List PlainStatement) × AreStatements (ts ++ rest) ss

-- the tokens are the first word of a local or an output, and so on to the equals sign
abbrev pub IsHead : List Placed → Type 0
IsHead ts =
    (type defined : Word) × (left : List ℤ)
    × (IsLocalHead ts type defined left ⊎ IsOutputHead ts type defined left)

-- the tokens end within a formula, or at its end, and this much of it stands there: whole statements come before it,
-- and its left side
pub record EndsInFormula (ts part : List Placed) : Type 0 where
  pub before : List Placed
  pub statements : List PlainStatement
  pub head : List Placed
  pub is : ts ≡ before ++ (head ++ part)
  pub whole : AreStatements before statements
  pub left : IsHead head
  pub begun : BeginsFormula part

-- the tokens end within a formula that has too many brackets open or too many tokens by now
pub record IsTooLarge (ts : List Placed) : Type 0 where
  pub part : List Placed
  pub within : EndsInFormula ts part
  pub large : IsLarge part

-- nothing is wrong with these tokens as the beginning of a text
pub record IsGoodStart (ts : List Placed) : Type 0 where
  pub begins : BeginsText ts
  pub small : IsTooLarge ts → ⊥

-- the first tokens are a good start, however many of at most k are taken
abbrev pub IsGoodUpTo : ℕ → List Placed → Type 0
IsGoodUpTo k ts = (j : ℕ) → j ≤ k → IsGoodStart (take j ts)

-- the tokens before the one of this number are a good start all along, and with it they are none
pub record IsFirstWrong (ts : List Placed) (k : ℕ) : Type 0 where
  pub good : IsGoodUpTo k ts
  pub wrong : IsGoodStart (take (suc k) ts) → ⊥

-- the tokens are statements of the grammar, and no formula is too large
pub record IsSyntax (ts : List Placed) (ss : List PlainStatement) : Type 0 where
  pub statements : AreStatements ts ss
  pub small : (k : ℕ) → IsTooLarge (take k ts) → ⊥

-- the line of the first wrong token of a text
pub record IsWrongAt (bytes : List ℕ) (line : ℕ) : Type 0 where
  pub number : ℕ
  pub token : Placed
  pub there : slice_get (tokens_of bytes) number ≡ Some token
  pub first : IsFirstWrong (tokens_of bytes) number
  pub is : line ≡ token.line

-- no token is wrong, and still the text is not whole: the line is that of its end
pub record EndsTooEarly (bytes : List ℕ) (line : ℕ) : Type 0 where
  pub good : IsGoodUpTo (length (tokens_of bytes)) (tokens_of bytes)
  pub no_text : (ss : List PlainStatement) → AreStatements (tokens_of bytes) ss → ⊥
  pub is : line ≡ end_line bytes

-- the syntax of a text is refused, at this line
abbrev pub IsSyntaxError : List ℕ → ℕ → Type 0
IsSyntaxError bytes line = IsWrongAt bytes line ⊎ EndsTooEarly bytes line
