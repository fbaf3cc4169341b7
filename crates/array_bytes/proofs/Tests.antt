-- The test of a type's range, and numbers far outside.
use Rattle.std.proofs.Common.{◌≡◌, ℕ, ◌-◌, ◌^◌, ◌≤◌, ◌<◌, ◌&&◌, T, Bool, true, false, ℤ, pos, negsuc, neg_ℤ, int_le, int_lt, ◌≤ℤ◌, ◌<ℤ◌, refl, arith, lit<}
use Rattle.std.proofs.lemmas.Int.{ints}
use Rattle.std.proofs.lemmas.Bool.{and_from, and_parts, and_left, and_right}
use Rattle.std.proofs.Math.Nat.{pow-le-pow_right}
use Rattle.soda_words.specs.IntType.{IntType, IsType}
use Rattle.int_types.specs.Ranges.{InRange, least, past}
use Rattle.array_bytes.specs.Values.{is_of, with_sign}

true_T : (b : Bool) → b ≡ true → T b
true_T true e = tt
true_T false e = cc

T_true : (b : Bool) → T b → b ≡ true
T_true true t = refl
T_true false t = absurd t

pub of_in_range : (t : IntType) (v : ℤ) → InRange t v → is_of t v ≡ true
unfolding is_of
of_in_range t v r = and_from (int_le (least t) v) (int_lt v (past t)) (T_true (int_le (least t) v) r.from.le) (T_true (int_lt v (past t)) r.below.lt)

pub in_range_of : (t : IntType) (v : ℤ) → is_of t v ≡ true → InRange t v
unfolding is_of
in_range_of t v e =
    let p = and_parts (int_le (least t) v) (int_lt v (past t)) e in
    record { from = record { le = true_T (int_le (least t) v) p.0 }; below = record { lt = true_T (int_lt v (past t)) p.1 } }

pub of_not_in_range : (t : IntType) (v : ℤ) → (InRange t v → ⊥) → is_of t v ≡ false
of_not_in_range t v never = elim (is_of t v) as (λ b. is_of t v ≡ b → b ≡ false) [ true ↦ λ e. absurd (never (in_range_of t v e)) | false ↦ λ e. refl ] refl

bounded : (s : Bool) (n : ℕ) (m : Bool) (v : ℕ) → n ≤ 64 → 2 ^ 64 ≤ v → InRange (record { signed = s; bits = n }) (with_sign m v) → ⊥
bounded true n true v h far r =
    let e : 2 ^ (n - 1) ≤ 2 ^ 63 = pow-le-pow_right {n = 2} (lit< tt) {i = n - 1} {j = 63} (omega arith) in omega (arith, ints, r.from)
bounded true n false v h far r =
    let e : 2 ^ (n - 1) ≤ 2 ^ 63 = pow-le-pow_right {n = 2} (lit< tt) {i = n - 1} {j = 63} (omega arith) in omega (arith, ints, r.below)
bounded false n true v h far r = omega (arith, ints, r.from)
bounded false n false v h far r =
    let e : 2 ^ n ≤ 2 ^ 64 = pow-le-pow_right {n = 2} (lit< tt) {i = n} {j = 64} h in omega (arith, ints, r.below)

-- no type has a number as far from 0 as 2 ^ 64
pub far_is_none : (t : IntType) (m : Bool) (v : ℕ) → IsType t → 2 ^ 64 ≤ v → is_of t (with_sign m v) ≡ false
far_is_none t m v h far = of_not_in_range t (with_sign m v) (λ r. bounded t.signed t.bits m v h.most far r)
