-- The number of a type that stands for any number.
use Rattle.std.proofs.Common.{◌≡◌, ℕ, zero, suc, ◌+◌, ◌-◌, ◌*◌, ◌%◌, ◌^◌, ◌<◌, ◌≤◌, Bool, true, false, ℤ, pos, ◌+ℤ◌, ◌-ℤ◌, ◌≤ℤ◌, ◌<ℤ◌, unsigned_abs, arith, refl, sym, subst, lit<}
use Rattle.std.specs.Int.{int_rem_euclid}
use Rattle.std.proofs.lemmas.Int.{ints}
use Rattle.std.proofs.lemmas.Nat.{pow_pos, mod_below}
use Rattle.std.proofs.Math.Nat.{pow-suc, pow-le-pow_right}
use Rattle.soda_words.specs.IntType.{IntType, IsType}
use Rattle.int_types.specs.Ranges.{least, past, InRange, IsWrapOf, wrapped}
use Rattle.int_types.proofs.Place.{multiple, place_is, rem_apart, back_apart, rem_from, rem_below_size}

-- a power is twice the one before it
double : (n : ℕ) → 0 < n → 2 ^ n ≡ 2 ^ (n - 1) + 2 ^ (n - 1)
double zero h = absurd (omega arith)
double (suc n) h = let f : suc n - 1 ≡ n = omega arith in rw f (omega (arith, pow-suc 2 n))

past_by : (s : Bool) (n : ℕ) → 0 < n → past (record { signed = s; bits = n }) ≡ least (record { signed = s; bits = n }) +ℤ pos (2 ^ n)
past_by true n h = omega (arith, ints, double n h)
past_by false n h = omega (arith, ints)

-- the range has 2 ^ bits numbers
pub past_is : (t : IntType) → 0 < t.bits → past t ≡ least t +ℤ pos (2 ^ t.bits)
past_is t h = past_by t.signed t.bits h

past_from : (s : Bool) (n : ℕ) → (least (record { signed = s; bits = n }) +ℤ pos (2 ^ n)) ≤ℤ past (record { signed = s; bits = n })
past_from true zero = omega (arith, ints)
past_from true (suc n) = omega (arith, ints, double (suc n) (omega arith))
past_from false n = omega (arith, ints)

least_by : (s : Bool) (n : ℕ) → least (record { signed = s; bits = n }) ≤ℤ pos 0
least_by true n = omega (arith, ints)
least_by false n = omega (arith, ints)

past_above : (s : Bool) (n : ℕ) → pos 0 <ℤ past (record { signed = s; bits = n })
past_above true n = omega (arith, ints, pow_pos (n - 1))
past_above false n = omega (arith, ints, pow_pos n)

pub wrapped_is : (t : IntType) (v r : ℤ) → 0 < t.bits → IsWrapOf t v r → r ≡ wrapped t v
unfolding wrapped
wrapped_is t v r h w =
    place_is (least t) v r (2 ^ t.bits) w.in_range.from (subst (λ (x : ℤ). r <ℤ x) (past_is t h) w.in_range.below) w.apart

-- the rest, where it is in the range
pub low_wrap : (t : IntType) (v rest : ℤ) → rest ≡ int_rem_euclid v (pos (2 ^ t.bits)) → pos 0 ≤ℤ rest → rest <ℤ past t → IsWrapOf t v rest
low_wrap t v rest e from below =
    record {
      in_range = record { from = omega (arith, ints, least_by t.signed t.bits); below = below };
      apart = rw e (rem_apart v (2 ^ t.bits) (pow_pos t.bits));
    }

-- the rest less the size, where it is not
pub high_wrap : (t : IntType) (v rest : ℤ) → 0 < t.bits → rest ≡ int_rem_euclid v (pos (2 ^ t.bits)) → rest <ℤ pos (2 ^ t.bits) → past t ≤ℤ rest → IsWrapOf t v (rest -ℤ pos (2 ^ t.bits))
high_wrap t v rest h e below from =
    record {
      in_range = record {
        from = omega (arith, ints, past_is t h);
        below = omega (arith, ints, past_above t.signed t.bits);
      };
      apart = rw e (back_apart v (2 ^ t.bits) (pow_pos t.bits));
    }

unsigned_by : (s : Bool) (n a b : ℕ) → s ≡ false → IsWrapOf (record { signed = s; bits = n }) (pos (a * b)) (pos (a * b % 2 ^ n))
unsigned_by true n a b e = cc
unsigned_by false n a b e =
    low_wrap (record { signed = false; bits = n }) (pos (a * b)) (pos (a * b % 2 ^ n)) refl (omega (arith, ints)) (omega (arith, ints, mod_below (a * b) (2 ^ n) (pow_pos n)))

-- the low bits of a product
pub unsigned_wrap : (t : IntType) (a b : ℕ) → t.signed ≡ false → IsWrapOf t (pos (a * b)) (pos (a * b % 2 ^ t.bits))
unsigned_wrap t a b e = unsigned_by t.signed t.bits a b e

past_by_64 : (s : Bool) (n : ℕ) → n ≤ 64 → past (record { signed = s; bits = n }) ≤ℤ pos (2 ^ 64)
past_by_64 true n h = let e : 2 ^ (n - 1) ≤ 2 ^ 64 = pow-le-pow_right {n = 2} (lit< tt) {i = n - 1} {j = 64} (omega arith) in omega (arith, ints)
past_by_64 false n h = let e : 2 ^ n ≤ 2 ^ 64 = pow-le-pow_right {n = 2} (lit< tt) {i = n} {j = 64} h in omega (arith, ints)

pub past_64 : (t : IntType) → IsType t → past t ≤ℤ pos (2 ^ 64)
past_64 t h = past_by_64 t.signed t.bits h.most

place_apart : (lo z : ℤ) (v : ℤ) (m : ℕ) → z ≡ v -ℤ lo → 0 < m → unsigned_abs (v -ℤ (lo +ℤ int_rem_euclid z (pos m))) % m ≡ 0
place_apart lo z v m e h =
    let f : v -ℤ (lo +ℤ int_rem_euclid z (pos m)) ≡ z -ℤ int_rem_euclid z (pos m) = omega (arith, ints) in rw f (rem_apart z m h)

-- the wrap is in range, whatever the width is
pub wrapped_in_range : (t : IntType) (v : ℤ) → InRange t (wrapped t v)
unfolding wrapped
wrapped_in_range t v =
    let p : 0 < 2 ^ t.bits = pow_pos t.bits in
    let lo : pos 0 ≤ℤ int_rem_euclid (v -ℤ least t) (pos (2 ^ t.bits)) = rem_from (v -ℤ least t) (2 ^ t.bits) p in
    let hi : int_rem_euclid (v -ℤ least t) (pos (2 ^ t.bits)) <ℤ pos (2 ^ t.bits) = rem_below_size (v -ℤ least t) (2 ^ t.bits) p in
    record {
      from = omega (arith, ints);
      below = omega (arith, ints, past_from t.signed t.bits);
    }

-- it is a wrap
pub wrapped_wraps : (t : IntType) (v : ℤ) → IsType t → IsWrapOf t v (wrapped t v)
unfolding wrapped
wrapped_wraps t v h =
    record {
      in_range = wrapped_in_range t v;
      apart = place_apart (least t) (v -ℤ least t) v (2 ^ t.bits) refl (pow_pos t.bits);
    }

-- 0 is in every range
pub zero_in_range : (t : IntType) → InRange t (pos 0)
zero_in_range t = record { from = least_by t.signed t.bits; below = past_above t.signed t.bits }

-- a number in range is its own wrap
pub own_wrap : (t : IntType) (v : ℤ) → InRange t v → IsWrapOf t v v
own_wrap t v r = record { in_range = r; apart = multiple _ 0 (2 ^ t.bits) (omega (arith, ints)) }

pub wrapped_same : (t : IntType) (v : ℤ) → IsType t → InRange t v → wrapped t v ≡ v
wrapped_same t v h r = sym (wrapped_is t v v h.some (own_wrap t v r))
