-- The operators: how each is written, how tightly it binds, and how many operands it has.
use Rattle.std.specs.Prelude.{ℕ, List, codes}
use Rattle.soda_words.specs.declared.operators.BinOp.{BinOp}
use Rattle.soda_words.specs.declared.operators.BinOp.TheVariants.{LogOr, LogAnd, BitOr, BitXor, BitAnd, Eq, Ne, Lt, Le, Gt, Ge, Add, Sub, Mul, Div, Rem, Min, Max}
use Rattle.soda_words.specs.declared.operators.UnOp.{UnOp}
use Rattle.soda_words.specs.declared.operators.UnOp.TheVariants.{Plus, Minus, Flip, Not, Abs}

-- how an operator is written, its level (0 is the loosest), and how many operands it has
pub record Row : Type 0 where
  pub spelling : List ℕ
  pub level : ℕ
  pub operands : ℕ

-- the level of prefix operators: tighter than all operators between two operands
abbrev pub prefix_level : ℕ
prefix_level = 9

-- the level of whatever needs no brackets as an operand; operators of this level are written as calls
abbrev pub operand_level : ℕ
operand_level = 10

-- an operator of two operands, of this spelling and level
abbrev pub two : List ℕ → ℕ → Row
two spelling level = record { spelling = spelling; level = level; operands = 2 }

-- an operator of one operand, of this spelling and level
abbrev pub one : List ℕ → ℕ → Row
one spelling level = record { spelling = spelling; level = level; operands = 1 }

-- the rows of the operators of two operands
abbrev pub binary_row : BinOp → Row
binary_row LogOr = two (codes "||") 0
binary_row LogAnd = two (codes "&&") 1
binary_row BitOr = two (codes "|") 2
binary_row BitXor = two (codes "^") 3
binary_row BitAnd = two (codes "&") 4
binary_row Eq = two (codes "==") 5
binary_row Ne = two (codes "!=") 5
binary_row Lt = two (codes "<") 6
binary_row Le = two (codes "<=") 6
binary_row Gt = two (codes ">") 6
binary_row Ge = two (codes ">=") 6
binary_row Add = two (codes "+") 7
binary_row Sub = two (codes "-") 7
binary_row Mul = two (codes "*") 8
binary_row Div = two (codes "/") 8
binary_row Rem = two (codes "%") 8
binary_row Min = two (codes "min") operand_level
binary_row Max = two (codes "max") operand_level

-- the rows of the operators of one operand
abbrev pub unary_row : UnOp → Row
unary_row Plus = one (codes "+") prefix_level
unary_row Minus = one (codes "-") prefix_level
unary_row Flip = one (codes "~") prefix_level
unary_row Not = one (codes "!") prefix_level
unary_row Abs = one (codes "abs") operand_level
