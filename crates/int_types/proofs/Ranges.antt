-- Each operator's value is in the range of its type.
use Rattle.std.proofs.Common.{Bool, true, false, if◌then◌else◌, ◌&&◌, ◌||◌, not, ℤ, pos, ◌-ℤ◌, ◌*ℤ◌, arith, refl, subst}
use Rattle.std.specs.Int.RustNames.{int_div, int_rem, int_lt, int_le}
use Rattle.std.specs.Ordering.{int_eq}
use Rattle.std.proofs.lemmas.Int.{ints}
use Rattle.soda_words.specs.IntType.{IntType, IsType, int32}
use Rattle.int_types.specs.Ranges.{least, past, InRange, wrapped}
use Rattle.int_types.specs.Operators.{promoted, common_of, truth, holds, result_of, operated, unary_type, unary_value, binary_type, binary_value, select_value}
use Rattle.soda_words.specs.declared.operators.UnOp.{UnOp}
use Rattle.soda_words.specs.declared.operators.UnOp.TheVariants.{Plus, Minus, Flip, Not, Abs}
use Rattle.soda_words.specs.declared.operators.BinOp.{BinOp}
use Rattle.soda_words.specs.declared.operators.BinOp.TheVariants.{LogOr, LogAnd, BitOr, BitXor, BitAnd, Eq, Ne, Lt, Le, Gt, Ge, Add, Sub, Mul, Div, Rem, Min, Max}
use Rattle.int_types.proofs.Bounds.{rem_low, rem_high, rest_is}
use Rattle.int_types.proofs.Wrapped.{wrapped_in_range, zero_in_range}

truth_in_range : (b : Bool) → InRange int32 (truth b)
truth_in_range true = record { from = omega (arith, ints); below = omega (arith, ints) }
truth_in_range false = record { from = omega (arith, ints); below = omega (arith, ints) }

one_in_range : (t : IntType) (b : Bool) (v w : ℤ) → InRange t v → InRange t w → InRange t (if b then v else w)
one_in_range t true v w h k = h
one_in_range t false v w h k = k

rest_in_range : (t : IntType) (x y : ℤ) → InRange t x → InRange t (x -ℤ (y *ℤ int_div x y))
rest_in_range t x y h =
    let zero : InRange t (pos 0) = zero_in_range t in
    subst (λ (r : ℤ). InRange t r) (rest_is x y (int_rem x y) refl) (record {
      from = rem_low x y (least t) h.from zero.from;
      below = rem_high x y (past t) h.below zero.below;
    })

operated_in_range : (op : BinOp) (t : IntType) (x y : ℤ) → InRange t x → InRange t y → InRange (result_of op t) (operated op t x y)
operated_in_range LogOr t x y p q = truth_in_range (holds x || holds y)
operated_in_range LogAnd t x y p q = truth_in_range (holds x && holds y)
operated_in_range BitOr t x y p q = wrapped_in_range t _
operated_in_range BitXor t x y p q = wrapped_in_range t _
operated_in_range BitAnd t x y p q = wrapped_in_range t _
operated_in_range Eq t x y p q = truth_in_range (int_eq x y)
operated_in_range Ne t x y p q = truth_in_range (not (int_eq x y))
operated_in_range Lt t x y p q = truth_in_range (int_lt x y)
operated_in_range Le t x y p q = truth_in_range (int_le x y)
operated_in_range Gt t x y p q = truth_in_range (int_lt y x)
operated_in_range Ge t x y p q = truth_in_range (int_le y x)
operated_in_range Add t x y p q = wrapped_in_range t _
operated_in_range Sub t x y p q = wrapped_in_range t _
operated_in_range Mul t x y p q = wrapped_in_range t _
operated_in_range Div t x y p q = one_in_range t (int_eq y (pos 0)) (pos 0) (wrapped t (int_div x y)) (zero_in_range t) (wrapped_in_range t _)
operated_in_range Rem t x y p q = one_in_range t (int_eq y (pos 0)) x (x -ℤ (y *ℤ int_div x y)) p (rest_in_range t x y p)
operated_in_range Min t x y p q = one_in_range t (int_lt y x) y x q p
operated_in_range Max t x y p q = one_in_range t (int_lt y x) x y p q

pub unary_in_range : (op : UnOp) (t : IntType) (v : ℤ) → IsType t → InRange (unary_type op t) (unary_value op t v)
unfolding unary_value
unary_in_range Plus t v h = wrapped_in_range (promoted t) _
unary_in_range Minus t v h = wrapped_in_range (promoted t) _
unary_in_range Flip t v h = wrapped_in_range (promoted t) _
unary_in_range Not t v h = truth_in_range (not (holds v))
unary_in_range Abs t v h = wrapped_in_range (promoted t) _

on_common : (op : BinOp) (t : IntType) (x y : ℤ) → InRange (result_of op t) (operated op t (wrapped t x) (wrapped t y))
on_common op t x y =
    operated_in_range op t (wrapped t x) (wrapped t y) (wrapped_in_range t x) (wrapped_in_range t y)

pub binary_in_range : (op : BinOp) (a : IntType) (x : ℤ) (b : IntType) (y : ℤ) → IsType a → IsType b → InRange (binary_type op a b) (binary_value op a x b y)
unfolding binary_value
binary_in_range LogOr a x b y h k = truth_in_range (holds x || holds y)
binary_in_range LogAnd a x b y h k = truth_in_range (holds x && holds y)
binary_in_range BitOr a x b y h k = on_common BitOr (common_of a b) x y
binary_in_range BitXor a x b y h k = on_common BitXor (common_of a b) x y
binary_in_range BitAnd a x b y h k = on_common BitAnd (common_of a b) x y
binary_in_range Eq a x b y h k = on_common Eq (common_of a b) x y
binary_in_range Ne a x b y h k = on_common Ne (common_of a b) x y
binary_in_range Lt a x b y h k = on_common Lt (common_of a b) x y
binary_in_range Le a x b y h k = on_common Le (common_of a b) x y
binary_in_range Gt a x b y h k = on_common Gt (common_of a b) x y
binary_in_range Ge a x b y h k = on_common Ge (common_of a b) x y
binary_in_range Add a x b y h k = on_common Add (common_of a b) x y
binary_in_range Sub a x b y h k = on_common Sub (common_of a b) x y
binary_in_range Mul a x b y h k = on_common Mul (common_of a b) x y
binary_in_range Div a x b y h k = on_common Div (common_of a b) x y
binary_in_range Rem a x b y h k = on_common Rem (common_of a b) x y
binary_in_range Min a x b y h k = on_common Min (common_of a b) x y
binary_in_range Max a x b y h k = on_common Max (common_of a b) x y

pub select_in_range : (c : ℤ) (a : IntType) (x : ℤ) (b : IntType) (y : ℤ) → IsType a → IsType b → InRange (common_of a b) (select_value c a x b y)
unfolding select_value
select_in_range c a x b y h k = wrapped_in_range (common_of a b) _
