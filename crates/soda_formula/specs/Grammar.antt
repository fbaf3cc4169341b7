-- The grammar of formulas: which lists of tokens are which formulas.
use Rattle.std.specs.Prelude.{◌≡◌, ℕ, suc, ◌≤◌, ◌==◌, true, false, List, [], ◌∷◌, ◌++◌, length, codes, Option, Some, None, option_map, ℤ, pos, neg_ℤ, if◌then◌else◌}
use Rattle.soda_words.specs.Limits.{most_sizes}
use Rattle.soda_words.specs.Names.{is_cast_word, is_reserved}
use Rattle.soda_words.specs.OperatorTable.{binary_row, unary_row, prefix_level, operand_level}
use Rattle.soda_words.specs.Symbols.{binary_of, unary_of}
use Rattle.soda_words.specs.declared.operators.UnOp.{UnOp}
use Rattle.soda_words.specs.declared.operators.UnOp.TheVariants.{Abs}
use Rattle.soda_words.specs.declared.operators.BinOp.{BinOp}
use Rattle.soda_words.specs.declared.symbol.Symbol.{Symbol}
use Rattle.soda_words.specs.declared.symbol.Symbol.TheVariants.{MinusSign, OpenRound, CloseRound, OpenSquare, CloseSquare, Comma}
use Rattle.soda_words.specs.declared.token.Placed.{Placed}
use Rattle.soda_words.specs.declared.token.Token.TheVariants.{Name, Number, Sign}
use Rattle.soda_words.specs.declared.token.Word.{Word}
use Rattle.soda_formula.specs.Terms.{Term, literal, cell, value, unary, binary, choice, cast}

-- a symbol on a line
abbrev pub symbol_on : ℕ → Symbol → Placed
symbol_on line s = record { line = line; token = Sign s }

-- a name on a line
abbrev pub name_on : ℕ → List ℕ → Placed
name_on line text = record { line = line; token = Name text }

-- a number on a line
abbrev pub number_on : ℕ → ℕ → Placed
number_on line n = record { line = line; token = Number n }

-- the token that a word is
abbrev pub word_on : Word → Placed
word_on w = name_on w.line w.text

-- one or more items, parted by commas
pub data AreParted {A : Type 0} (IsItem : List Placed → A → Type 0) : List Placed → List A → Type 0 where
  last_item : {ts : List Placed} {a : A} → IsItem ts a → AreParted IsItem ts (a ∷ [])
  item_before : {ts us : List Placed} {a : A} {others : List A} (line : ℕ)
      → IsItem ts a → AreParted IsItem us others → AreParted IsItem (ts ++ symbol_on line Comma ∷ us) (a ∷ others)

-- a list in round brackets
pub record InRound {A : Type 0} (IsInside : List Placed → A → Type 0) (ts : List Placed) (a : A) : Type 0 where
  pub opened : ℕ
  pub inside : List Placed
  pub closed : ℕ
  pub is : ts ≡ symbol_on opened OpenRound ∷ (inside ++ symbol_on closed CloseRound ∷ [])
  pub item : IsInside inside a

-- a component of an offset: a number, or one behind a minus sign
pub data IsComponent : List Placed → ℤ → Type 0 where
  ahead : (line n : ℕ) → IsComponent (number_on line n ∷ []) (pos n)
  back : (minus line n : ℕ) → IsComponent (symbol_on minus MinusSign ∷ number_on line n ∷ []) (neg_ℤ (pos n))

-- offsets: components in round brackets, parted by commas
abbrev pub AreOffsets : List Placed → List ℤ → Type 0
AreOffsets = InRound (AreParted IsComponent)

-- numbers in square brackets, any number of them
pub data AreIndexes : List Placed → List ℕ → Type 0 where
  no_index : AreIndexes [] []
  index_before : {ts : List Placed} {indexes : List ℕ} (opened line n closed : ℕ) → AreIndexes ts indexes
      → AreIndexes (symbol_on opened OpenSquare ∷ number_on line n ∷ symbol_on closed CloseSquare ∷ ts) (n ∷ indexes)

-- an operator between two operands, and its level: 0 is the loosest
pub record Infix : Type 0 where
  pub level : ℕ
  pub op : BinOp

-- the operator that a symbol is between two operands, with the level of its row
abbrev pub infix_of : Symbol → Option Infix
infix_of s = option_map (λ op. record { level = (binary_row op).level; op = op }) (binary_of s)

-- the operator that a symbol is before one operand
abbrev pub prefix_of : Symbol → Option UnOp
prefix_of s = unary_of s

-- the word of an operator of two operands that is written as a call
abbrev pub call_text : BinOp → Option (List ℕ)
call_text op = if (binary_row op).level == operand_level then Some (binary_row op).spelling else None

-- the tokens are a formula of this level, which groups to the left
pub data IsTerm : (level : ℕ) → List Placed → Term → Type 0 where
  -- what binds tighter may stand where a looser formula may
  tighter : {level : ℕ} {ts : List Placed} {a : Term} → IsTerm (suc level) ts a → IsTerm level ts a
  -- a left operand of this level, and a right one of the next
  joined : {level : ℕ} {ts us : List Placed} {a b : Term} (line : ℕ) (s : Symbol) (op : BinOp)
      → infix_of s ≡ Some (record { level = level; op = op }) → IsTerm level ts a → IsTerm (suc level) us b
      → IsTerm level (ts ++ symbol_on line s ∷ us) (binary op a b)
  -- a prefix operator, which may stand before another
  prefixed : {ts : List Placed} {a : Term} (line : ℕ) (s : Symbol) (op : UnOp)
      → prefix_of s ≡ Some op → IsTerm prefix_level ts a → IsTerm prefix_level (symbol_on line s ∷ ts) (unary op a)
  -- a number
  a_literal : (line n : ℕ) → IsTerm operand_level (number_on line n ∷ []) (literal n)
  -- a formula in round brackets
  bracketed : {ts : List Placed} {a : Term} (opened closed : ℕ) → IsTerm 0 ts a
      → IsTerm operand_level (symbol_on opened OpenRound ∷ (ts ++ symbol_on closed CloseRound ∷ [])) a
  -- a cast word and a formula in round brackets
  a_cast : {ts : List Placed} {a : Term} (type : Word) (opened closed : ℕ)
      → is_cast_word type.text ≡ true → IsTerm 0 ts a
      → IsTerm operand_level
      (word_on type ∷ symbol_on opened OpenRound ∷ (ts ++ symbol_on closed CloseRound ∷ [])) (cast type a)
  -- `abs` of a formula
  an_abs : {ts : List Placed} {a : Term} (line opened closed : ℕ) → IsTerm 0 ts a
      → IsTerm operand_level
      (name_on line (unary_row Abs).spelling ∷ symbol_on opened OpenRound ∷ (ts ++ symbol_on closed CloseRound ∷ []))
      (unary Abs a)
  -- `min` or `max` of two formulas
  a_call : {ts us : List Placed} {a b : Term} (line opened comma closed : ℕ) (op : BinOp) (text : List ℕ)
      → call_text op ≡ Some text → IsTerm 0 ts a → IsTerm 0 us b
      → IsTerm operand_level
      (name_on line text ∷ symbol_on opened OpenRound
      ∷ (ts ++ symbol_on comma Comma ∷ (us ++ symbol_on closed CloseRound ∷ [])))
      (binary op a b)
  -- `select` of three formulas
  a_choice : {ts us vs : List Placed} {a b c : Term} (line opened first second closed : ℕ)
      → IsTerm 0 ts a → IsTerm 0 us b → IsTerm 0 vs c
      → IsTerm operand_level
      (name_on line (codes "select") ∷ symbol_on opened OpenRound
      ∷ (ts ++ symbol_on first Comma ∷ (us ++ symbol_on second Comma ∷ (vs ++ symbol_on closed CloseRound ∷ []))))
      (choice a b c)
  -- a name and offsets
  a_cell : {ts : List Placed} {offsets : List ℤ} (tensor : Word)
      → is_reserved tensor.text ≡ false → AreOffsets ts offsets
      → IsTerm operand_level (word_on tensor ∷ ts) (cell tensor offsets)
  -- a name and at most two indexes
  a_value : {ts : List Placed} {indexes : List ℕ} (param : Word)
      → is_reserved param.text ≡ false → AreIndexes ts indexes → length indexes ≤ most_sizes
      → IsTerm operand_level (word_on param ∷ ts) (value param indexes)

-- the tokens are a formula
abbrev pub IsFormula : List Placed → Term → Type 0
IsFormula = IsTerm 0
