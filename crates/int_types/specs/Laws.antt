-- The laws of the number rules.
use Rattle.std.specs.Prelude.{◌≡◌, ◌≢◌, ℕ, ◌≤◌, ◌<◌, ℤ, pos, ◌-ℤ◌, ◌*ℤ◌, unsigned_abs, int_div}
use Rattle.soda_words.specs.IntType.{IntType, IsType}
use Rattle.int_types.specs.Ranges.{InRange, IsWrapOf, wrapped}
use Rattle.int_types.specs.Operators.{bit, operated, unary_type, unary_value, binary_type, binary_value, common_of, select_value}
use Rattle.soda_words.specs.declared.operators.UnOp.{UnOp}
use Rattle.soda_words.specs.declared.operators.BinOp.{BinOp}

-- `wrapped` is a wrap
abbrev pub WrapIsThere : Type 0
WrapIsThere = (t : IntType) (v : ℤ) → IsType t → IsWrapOf t v (wrapped t v)

-- no other number is
abbrev pub WrapIsOne : Type 0
WrapIsOne = (t : IntType) (v r : ℤ) → IsType t → IsWrapOf t v r → r ≡ wrapped t v

-- a number in range stays as it is
abbrev pub WrapKeepsRange : Type 0
WrapKeepsRange = (t : IntType) (v : ℤ) → IsType t → InRange t v → wrapped t v ≡ v

-- each bit of the value is f of the same bits of the operands
abbrev pub IsBitByBit : BinOp → (ℕ → ℕ → ℕ) → Type 0
IsBitByBit op f =
    (t : IntType) (x y : ℤ) (k : ℕ) → IsType t → k < t.bits →
    bit t (operated op t x y) k ≡ f (bit t x k) (bit t y k)

-- q is x by y, truncated toward zero: what is left is less than y, and y times q goes not past x
pub record IsTruncated (x y q : ℤ) : Type 0 where
  pub near : unsigned_abs (x -ℤ (y *ℤ q)) < unsigned_abs y
  pub toward_zero : unsigned_abs (y *ℤ q) ≤ unsigned_abs x

-- the quotient is truncated toward zero
abbrev pub QuotientIsTruncated : Type 0
QuotientIsTruncated = (x y : ℤ) → y ≢ pos 0 → IsTruncated x y (int_div x y)

-- the value of an operator of one operand is in the range of its type
abbrev pub UnaryIsInRange : Type 0
UnaryIsInRange = (op : UnOp) (t : IntType) (v : ℤ) → IsType t → InRange (unary_type op t) (unary_value op t v)

-- the value of an operator of two operands is in the range of its type
abbrev pub BinaryIsInRange : Type 0
BinaryIsInRange =
    (op : BinOp) (a : IntType) (x : ℤ) (b : IntType) (y : ℤ) → IsType a → IsType b →
    InRange (binary_type op a b) (binary_value op a x b y)

-- the value of a choice is in the range of its type
abbrev pub SelectIsInRange : Type 0
SelectIsInRange =
    (c : ℤ) (a : IntType) (x : ℤ) (b : IntType) (y : ℤ) → IsType a → IsType b →
    InRange (common_of a b) (select_value c a x b y)
