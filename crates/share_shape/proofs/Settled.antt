-- What an operator, a call or a cast gives is its own wrap to its type.
use Rattle.std.proofs.Common.{◌≡◌, ◌<◌, ◌^◌, Bool, true, false, List, ℤ, pos, ◌+ℤ◌, ◌-ℤ◌, ◌*ℤ◌, ◌≤ℤ◌, ◌<ℤ◌, nat_lt, refl, sym, arith, subst, if◌then◌else◌}
use Rattle.std.specs.Int.{int_rem_euclid}
use Rattle.std.specs.Int.RustNames.{int_div, int_rem, int_lt}
use Rattle.std.specs.Ordering.{int_eq}
use Rattle.std.proofs.lemmas.Bool.{false≢true, ltb-false}
use Rattle.std.proofs.lemmas.Int.{ints}
use Rattle.std.proofs.lemmas.Nat.{pow_pos}
use Rattle.soda_words.specs.IntType.{IntType, int32}
use Rattle.soda_words.specs.declared.operators.BinOp.{BinOp}
use Rattle.soda_words.specs.declared.operators.BinOp.TheVariants.{LogOr, LogAnd, BitOr, BitXor, BitAnd, Eq, Ne, Lt, Le, Gt, Ge, Add, Sub, Mul, Div, Rem, Min, Max}
use Rattle.soda_words.specs.declared.operators.UnOp.{UnOp}
use Rattle.soda_words.specs.declared.operators.UnOp.TheVariants.{Plus, Minus, Flip, Not, Abs}
use Rattle.int_types.specs.Operators.{promoted, common_of, truth, result_of, operated, unary_type, unary_value, binary_type, binary_value, select_value}
use Rattle.int_types.specs.Ranges.{InRange, least, past, wrapped}
use Rattle.int_types.proofs.CallerLemmas.{rem_low, rem_high, rest_is, multiple, place_is, rem_from, rem_below_size, own_wrap, wrapped_in_range, wrapped_is, zero_in_range}
use Rattle.soda_ir.specs.Formula.{Formula, number, read, param, unary, binary, choice, cast}
use Rattle.soda_eval.specs.Values.{Scope, Values, typed, valued}
use Rattle.share_shape.proofs.Replaced.{is_operation}

-- a wrap is its own wrap, whatever the width is
wrapped_twice : (t : IntType) (v : ℤ) → wrapped t (wrapped t v) ≡ wrapped t v
unfolding wrapped
wrapped_twice t v =
    let m = 2 ^ t.bits in
    let p : 0 < m = pow_pos t.bits in
    let r = int_rem_euclid (v -ℤ least t) (pos m) in
    let lo : pos 0 ≤ℤ r = rem_from (v -ℤ least t) m p in
    let hi : r <ℤ pos m = rem_below_size (v -ℤ least t) m p in
    let w : ℤ = least t +ℤ r in
    sym (place_is (least t) w w m (omega (arith, ints)) (omega (arith, ints)) (multiple _ 0 m (omega (arith, ints))))

-- a number in the range of a type of some width
in_range_same : (t : IntType) (v : ℤ) → 0 < t.bits → InRange t v → wrapped t v ≡ v
in_range_same t v h r = sym (wrapped_is t v v h (own_wrap t v r))

truth_same : (b : Bool) → wrapped int32 (truth b) ≡ truth b
truth_same true = in_range_same int32 (pos 1) (omega arith) (record { from = omega (arith, ints); below = omega (arith, ints) })
truth_same false = in_range_same int32 (pos 0) (omega arith) (record { from = omega (arith, ints); below = omega (arith, ints) })

if_same : (t : IntType) (b : Bool) (x y : ℤ) → wrapped t x ≡ x → wrapped t y ≡ y → wrapped t (if b then x else y) ≡ (if b then x else y)
if_same t true x y p q = p
if_same t false x y p q = q

-- promoted types, and those that are common to two, have some width
promoted_by : (t : IntType) (b : Bool) → nat_lt t.bits 32 ≡ b → 0 < (if b then int32 else t).bits
promoted_by t true e = omega arith
promoted_by t false e = omega (arith, ltb-false t.bits 32 e)

promoted_wide : (t : IntType) → 0 < (promoted t).bits
promoted_wide t = promoted_by t (nat_lt t.bits 32) refl

wide_by : (b : Bool) (t u : IntType) → 0 < t.bits → 0 < u.bits → 0 < (if b then t else u).bits
wide_by true t u h k = h
wide_by false t u h k = k

common_wide : (a b : IntType) → 0 < (common_of a b).bits
common_wide a b =
    let x = promoted a in let y = promoted b in
    let p : 0 < x.bits = promoted_wide a in let q : 0 < y.bits = promoted_wide b in
    wide_by (nat_lt x.bits y.bits) y (if nat_lt y.bits x.bits then x else (if x.signed then y else x)) q
    (wide_by (nat_lt y.bits x.bits) x (if x.signed then y else x) p (wide_by x.signed y x q p))

rest_in_range : (t : IntType) (x y : ℤ) → InRange t x → InRange t (x -ℤ (y *ℤ int_div x y))
rest_in_range t x y h =
    let zero : InRange t (pos 0) = zero_in_range t in
    subst (λ (r : ℤ). InRange t r) (rest_is x y (int_rem x y) refl) (record {
      from = rem_low x y (least t) h.from zero.from;
      below = rem_high x y (past t) h.below zero.below;
    })

-- an operator of two operands, on wrapped operands
on_wrapped : (op : BinOp) (t : IntType) (x y : ℤ) → 0 < t.bits → wrapped (result_of op t) (operated op t (wrapped t x) (wrapped t y)) ≡ operated op t (wrapped t x) (wrapped t y)
on_wrapped LogOr t x y h = truth_same _
on_wrapped LogAnd t x y h = truth_same _
on_wrapped BitOr t x y h = wrapped_twice t _
on_wrapped BitXor t x y h = wrapped_twice t _
on_wrapped BitAnd t x y h = wrapped_twice t _
on_wrapped Eq t x y h = truth_same _
on_wrapped Ne t x y h = truth_same _
on_wrapped Lt t x y h = truth_same _
on_wrapped Le t x y h = truth_same _
on_wrapped Gt t x y h = truth_same _
on_wrapped Ge t x y h = truth_same _
on_wrapped Add t x y h = wrapped_twice t _
on_wrapped Sub t x y h = wrapped_twice t _
on_wrapped Mul t x y h = wrapped_twice t _
on_wrapped Div t x y h =
    if_same t (int_eq (wrapped t y) (pos 0)) (pos 0) (wrapped t (int_div (wrapped t x) (wrapped t y))) (in_range_same t (pos 0) h (zero_in_range t)) (wrapped_twice t _)
on_wrapped Rem t x y h =
    if_same t (int_eq (wrapped t y) (pos 0)) (wrapped t x) (wrapped t x -ℤ (wrapped t y *ℤ int_div (wrapped t x) (wrapped t y))) (wrapped_twice t x) (in_range_same t _ h (rest_in_range t (wrapped t x) (wrapped t y) (wrapped_in_range t x)))
on_wrapped Min t x y h =
    if_same t (int_lt (wrapped t y) (wrapped t x)) (wrapped t y) (wrapped t x) (wrapped_twice t y) (wrapped_twice t x)
on_wrapped Max t x y h =
    if_same t (int_lt (wrapped t y) (wrapped t x)) (wrapped t x) (wrapped t y) (wrapped_twice t x) (wrapped_twice t y)

unary_same : (op : UnOp) (t : IntType) (v : ℤ) → wrapped (unary_type op t) (unary_value op t v) ≡ unary_value op t v
unfolding unary_value
unary_same Plus t v = wrapped_twice (promoted t) _
unary_same Minus t v = wrapped_twice (promoted t) _
unary_same Flip t v = wrapped_twice (promoted t) _
unary_same Not t v = truth_same _
unary_same Abs t v = wrapped_twice (promoted t) _

binary_same : (op : BinOp) (a : IntType) (x : ℤ) (b : IntType) (y : ℤ) → wrapped (binary_type op a b) (binary_value op a x b y) ≡ binary_value op a x b y
unfolding binary_value
binary_same LogOr a x b y = truth_same _
binary_same LogAnd a x b y = truth_same _
binary_same BitOr a x b y = on_wrapped BitOr (common_of a b) x y (common_wide a b)
binary_same BitXor a x b y = on_wrapped BitXor (common_of a b) x y (common_wide a b)
binary_same BitAnd a x b y = on_wrapped BitAnd (common_of a b) x y (common_wide a b)
binary_same Eq a x b y = on_wrapped Eq (common_of a b) x y (common_wide a b)
binary_same Ne a x b y = on_wrapped Ne (common_of a b) x y (common_wide a b)
binary_same Lt a x b y = on_wrapped Lt (common_of a b) x y (common_wide a b)
binary_same Le a x b y = on_wrapped Le (common_of a b) x y (common_wide a b)
binary_same Gt a x b y = on_wrapped Gt (common_of a b) x y (common_wide a b)
binary_same Ge a x b y = on_wrapped Ge (common_of a b) x y (common_wide a b)
binary_same Add a x b y = on_wrapped Add (common_of a b) x y (common_wide a b)
binary_same Sub a x b y = on_wrapped Sub (common_of a b) x y (common_wide a b)
binary_same Mul a x b y = on_wrapped Mul (common_of a b) x y (common_wide a b)
binary_same Div a x b y = on_wrapped Div (common_of a b) x y (common_wide a b)
binary_same Rem a x b y = on_wrapped Rem (common_of a b) x y (common_wide a b)
binary_same Min a x b y = on_wrapped Min (common_of a b) x y (common_wide a b)
binary_same Max a x b y = on_wrapped Max (common_of a b) x y (common_wide a b)

select_same : (c : ℤ) (a : IntType) (x : ℤ) (b : IntType) (y : ℤ) → wrapped (common_of a b) (select_value c a x b y) ≡ select_value c a x b y
unfolding select_value
select_same c a x b y = wrapped_twice (common_of a b) _

pub settled : (s : Scope) (cells : Values) (params : List ℤ) (f : Formula) → is_operation f ≡ true → wrapped (typed s f) (valued s cells params f) ≡ valued s cells params f
settled s cells params (number n) e = absurd (false≢true e)
settled s cells params (read t o) e = absurd (false≢true e)
settled s cells params (param p k) e = absurd (false≢true e)
settled s cells params (unary op a) e = unary_same op (typed s a) (valued s cells params a)
settled s cells params (binary op a b) e = binary_same op (typed s a) (valued s cells params a) (typed s b) (valued s cells params b)
settled s cells params (choice c a b) e = select_same (valued s cells params c) (typed s a) (valued s cells params a) (typed s b) (valued s cells params b)
settled s cells params (cast t a) e = wrapped_twice t (valued s cells params a)
