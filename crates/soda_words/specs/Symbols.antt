-- The symbols of program texts, and how they are written.
use Rattle.std.specs.Prelude.{ℕ, Bool, false, ◌&&◌, ◌==◌, List, [], ◌∷◌, Option, Some, None, find, codes}
use Rattle.soda_words.specs.OperatorTable.{binary_row, unary_row}
use Rattle.soda_words.specs.declared.operators.BinOp.{BinOp}
use Rattle.soda_words.specs.declared.operators.BinOp.TheVariants.{LogOr, LogAnd, BitOr, BitXor, BitAnd, Eq, Ne, Lt, Le, Gt, Ge, Add, Sub, Mul, Div, Rem}
use Rattle.soda_words.specs.declared.operators.UnOp.{UnOp}
use Rattle.soda_words.specs.declared.operators.UnOp.TheVariants.{Plus, Minus, Flip, Not}
use Rattle.soda_words.specs.declared.symbol.Symbol.{Symbol}
use Rattle.soda_words.specs.declared.symbol.Symbol.TheVariants.{BarBar, AmpAmp, EqualEqual, BangEqual, LessEqual, GreaterEqual, Bar, Caret, Amp, Less, Greater, PlusSign, MinusSign, Star, Slash, Percent, Tilde, Bang, OpenRound, CloseRound, OpenSquare, CloseSquare, Comma, Colon, EqualSign, Dot}

-- the operator that a symbol is between two operands
abbrev pub binary_of : Symbol → Option BinOp
binary_of BarBar = Some LogOr
binary_of AmpAmp = Some LogAnd
binary_of Bar = Some BitOr
binary_of Caret = Some BitXor
binary_of Amp = Some BitAnd
binary_of EqualEqual = Some Eq
binary_of BangEqual = Some Ne
binary_of Less = Some Lt
binary_of LessEqual = Some Le
binary_of Greater = Some Gt
binary_of GreaterEqual = Some Ge
binary_of PlusSign = Some Add
binary_of MinusSign = Some Sub
binary_of Star = Some Mul
binary_of Slash = Some Div
binary_of Percent = Some Rem
binary_of _ = None

-- the operator that a symbol is before one operand
abbrev pub unary_of : Symbol → Option UnOp
unary_of PlusSign = Some Plus
unary_of MinusSign = Some Minus
unary_of Tilde = Some Flip
unary_of Bang = Some Not
unary_of _ = None

-- how the symbols are written that are no operators
abbrev pub mark_text : Symbol → List ℕ
mark_text OpenRound = codes "("
mark_text CloseRound = codes ")"
mark_text OpenSquare = codes "["
mark_text CloseSquare = codes "]"
mark_text Comma = codes ","
mark_text Colon = codes ":"
mark_text EqualSign = codes "="
mark_text Dot = codes "."
mark_text _ = []

-- how a symbol is written: as its operator is, or as a mark
abbrev pub symbol_text : Symbol → List ℕ
symbol_text s =
    elim (binary_of s) [
      | Some op ↦ (binary_row op).spelling
      | None ↦ elim (unary_of s) [ Some op ↦ (unary_row op).spelling | None ↦ mark_text s ]
    ]

-- all symbols
abbrev pub symbols : List Symbol
symbols =
    BarBar ∷ AmpAmp ∷ EqualEqual ∷ BangEqual ∷ LessEqual ∷ GreaterEqual ∷ Bar ∷ Caret ∷ Amp ∷ Less ∷ Greater
    ∷ PlusSign ∷ MinusSign ∷ Star ∷ Slash ∷ Percent ∷ Tilde ∷ Bang ∷ OpenRound ∷ CloseRound ∷ OpenSquare
    ∷ CloseSquare ∷ Comma ∷ Colon ∷ EqualSign ∷ Dot ∷ []

-- a text is these two bytes
abbrev pub is_of_two : ℕ → ℕ → List ℕ → Bool
is_of_two a b (p ∷ q ∷ []) = a == p && b == q
is_of_two a b _ = false

-- a text is this one byte
abbrev pub is_of_one : ℕ → List ℕ → Bool
is_of_one a (p ∷ []) = a == p
is_of_one a _ = false

-- the symbol that two bytes write, if they write one
abbrev pub double_of : ℕ → ℕ → Option Symbol
double_of a b = find (λ s. is_of_two a b (symbol_text s)) symbols

-- the symbol that one byte writes, if it writes one
abbrev pub single_of : ℕ → Option Symbol
single_of a = find (λ s. is_of_one a (symbol_text s)) symbols
