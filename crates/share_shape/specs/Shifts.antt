-- Formulas that differ by a vector alone.
use Rattle.std.specs.Prelude.{◌≡◌, ℕ, Bool, true, false, not, ◌&&◌, ◌==◌, List, [], ◌∷◌, length, map, ℤ, neg_ℤ, if◌then◌else◌}
use Rattle.std.specs.Ordering.{int_eq}
use Rattle.soda_words.specs.IntType.{is_same_type}
use Rattle.soda_words.specs.declared.operators.BinOp.{BinOp}
use Rattle.soda_words.specs.declared.operators.BinOp.TheVariants.{LogOr, LogAnd, BitOr, BitXor, BitAnd, Eq, Ne, Lt, Le, Gt, Ge, Add, Sub, Mul, Div, Rem, Min, Max}
use Rattle.soda_words.specs.declared.operators.UnOp.{UnOp}
use Rattle.soda_words.specs.declared.operators.UnOp.TheVariants.{Plus, Minus, Flip, Not, Abs}
use Rattle.soda_ir.specs.Formula.{Formula, number, read, param, unary, binary, choice, cast, every}
use Rattle.soda_eval.specs.Points.{moved}

-- the formula with this vector added to all its offsets
abbrev pub shifted : (vector : List ℤ) → Formula → Formula
shifted v (number n) = number n
shifted v (read t o) = read t (moved o v)
shifted v (param p k) = param p k
shifted v (unary op a) = unary op (shifted v a)
shifted v (binary op a b) = binary op (shifted v a) (shifted v b)
shifted v (choice c a b) = choice (shifted v c) (shifted v a) (shifted v b)
shifted v (cast t a) = cast t (shifted v a)

-- adding one vector to every offset of the one gives the other, in so many dimensions
abbrev pub IsShiftEqual : (dims : ℕ) → Formula → Formula → Type 0
IsShiftEqual dims f g = (v : List ℤ) × (length v ≡ dims) × (shifted v f ≡ g)

-- a cell stands in the formula
abbrev pub has_cell : Formula → Bool
has_cell f = not (every (λ t o. false) f)

-- the offset of the formula's first cell, from the left
abbrev pub first_offset : Formula → List ℤ
first_offset (number n) = []
first_offset (read t o) = o
first_offset (param p k) = []
first_offset (unary op a) = first_offset a
first_offset (binary op a b) = if has_cell a then first_offset a else first_offset b
first_offset (choice c a b) =
    if has_cell c then first_offset c else (if has_cell a then first_offset a else first_offset b)
first_offset (cast t a) = first_offset a

-- the formula with the offset of its first cell subtracted from all offsets
abbrev pub based : Formula → Formula
based f = shifted (map neg_ℤ (first_offset f)) f

-- the number of an operator of one operand
abbrev pub unary_number : UnOp → ℕ
unary_number Plus = 0
unary_number Minus = 1
unary_number Flip = 2
unary_number Not = 3
unary_number Abs = 4

-- the number of an operator of two operands
abbrev pub binary_number : BinOp → ℕ
binary_number LogOr = 0
binary_number LogAnd = 1
binary_number BitOr = 2
binary_number BitXor = 3
binary_number BitAnd = 4
binary_number Eq = 5
binary_number Ne = 6
binary_number Lt = 7
binary_number Le = 8
binary_number Gt = 9
binary_number Ge = 10
binary_number Add = 11
binary_number Sub = 12
binary_number Mul = 13
binary_number Div = 14
binary_number Rem = 15
binary_number Min = 16
binary_number Max = 17

-- two offsets are one
abbrev pub is_same_offset : List ℤ → List ℤ → Bool
is_same_offset [] [] = true
is_same_offset [] (e ∷ es) = false
is_same_offset (d ∷ ds) [] = false
is_same_offset (d ∷ ds) (e ∷ es) = int_eq d e && is_same_offset ds es

-- two formulas are one
abbrev pub is_same : Formula → Formula → Bool
is_same (number n) (number m) = n == m
is_same (read t o) (read u w) = t == u && is_same_offset o w
is_same (param p k) (param q l) = p == q && k == l
is_same (unary op a) (unary po b) = unary_number op == unary_number po && is_same a b
is_same (binary op a b) (binary po c d) = binary_number op == binary_number po && is_same a c && is_same b d
is_same (choice c a b) (choice d e f) = is_same c d && is_same a e && is_same b f
is_same (cast t a) (cast u b) = is_same_type t u && is_same a b
is_same _ _ = false

-- two formulas with a cell each are shift-equal: they differ by a vector alone
abbrev pub are_shift_equal : Formula → Formula → Bool
are_shift_equal f g = is_same (based f) (based g)
