-- Bounds on numbers of at most 64 bits.
use Rattle.std.proofs.Common.{◌≡◌, ℕ, suc, ◌-◌, ◌/◌, ◌%◌, ◌^◌, ◌<◌, ◌≤◌, Bool, true, false, ℤ, pos, negsuc, ◌-ℤ◌, ◌*ℤ◌, ◌≤ℤ◌, ◌<ℤ◌, unsigned_abs, arith, refl, lit<}
use Rattle.std.specs.Int.RustNames.{int_div, int_rem, bit_or, bit_xor}
use Rattle.std.proofs.lemmas.Int.{ints, quot-rem}
use Rattle.std.proofs.lemmas.Nat.{or_lt, xor_lt}
use Rattle.std.proofs.Math.Nat.{pow-le-pow_right, mod-le, div-le_self}
use Rattle.soda_words.specs.IntType.{IntType, IsType}
use Rattle.int_types.specs.Ranges.{least, InRange}

pub or_of_64 : (a b : ℕ) → a < 2 ^ 64 → b < 2 ^ 64 → bit_or a b < 2 ^ 64
or_of_64 a b p q = or_lt 64 a b p q

pub xor_of_64 : (a b : ℕ) → a < 2 ^ 64 → b < 2 ^ 64 → bit_xor a b < 2 ^ 64
xor_of_64 a b p q = xor_lt 64 a b p q

abs_by : (s : Bool) (n : ℕ) (v : ℤ) → n ≤ 64 → InRange (record { signed = s; bits = n }) v → unsigned_abs v ≤ 2 ^ 64
abs_by true n v h r =
    let e : 2 ^ (n - 1) ≤ 2 ^ 64 = pow-le-pow_right {n = 2} (lit< tt) {i = n - 1} {j = 64} (omega arith) in omega (arith, ints)
abs_by false n v h r = let e : 2 ^ n ≤ 2 ^ 64 = pow-le-pow_right {n = 2} (lit< tt) {i = n} {j = 64} h in omega (arith, ints)

pub abs_bound : (t : IntType) (v : ℤ) → IsType t → InRange t v → unsigned_abs v ≤ 2 ^ 64
abs_bound t v h r = abs_by t.signed t.bits v h.most r

signed_by : (s : Bool) (n : ℕ) (v : ℤ) → s ≡ true → n ≤ 64 → InRange (record { signed = s; bits = n }) v → unsigned_abs v ≤ 2 ^ 63
signed_by true n v e h r =
    let e : 2 ^ (n - 1) ≤ 2 ^ 63 = pow-le-pow_right {n = 2} (lit< tt) {i = n - 1} {j = 63} (omega arith) in omega (arith, ints)
signed_by false n v e h r = cc

pub signed_bound : (t : IntType) (v : ℤ) → IsType t → t.signed ≡ true → InRange t v → unsigned_abs v ≤ 2 ^ 63
signed_bound t v h e r = signed_by t.signed t.bits v e h.most r

unsigned_by : (s : Bool) (n : ℕ) (v : ℤ) → s ≡ false → InRange (record { signed = s; bits = n }) v → (v ≡ pos (unsigned_abs v)) × (least (record { signed = s; bits = n }) ≡ pos 0)
unsigned_by true n v e r = cc
unsigned_by false n v e r = (omega (arith, ints), refl)

pub unsigned_is : (t : IntType) (v : ℤ) → t.signed ≡ false → InRange t v → (v ≡ pos (unsigned_abs v)) × (least t ≡ pos 0)
unsigned_is t v e r = unsigned_by t.signed t.bits v e r

-- a truncated quotient is no greater than the dividend
pub abs_div : (a d : ℤ) → unsigned_abs (int_div a d) ≤ unsigned_abs a
abs_div (pos a) (pos d) = div-le_self a d
abs_div (pos a) (negsuc d) = let e : a / suc d ≤ a = div-le_self a (suc d) in omega (arith, ints)
abs_div (negsuc a) (pos d) = let e : suc a / d ≤ suc a = div-le_self (suc a) d in omega (arith, ints)
abs_div (negsuc a) (negsuc d) = div-le_self (suc a) (suc d)

-- a remainder lies between the dividend and 0
pub rem_low : (a d : ℤ) (l : ℤ) → l ≤ℤ a → l ≤ℤ pos 0 → l ≤ℤ int_rem a d
rem_low (pos a) d l h k = omega (arith, ints)
rem_low (negsuc a) d l h k = let e : suc a % unsigned_abs d ≤ suc a = mod-le (suc a) (unsigned_abs d) in omega (arith, ints)

pub rem_high : (a d : ℤ) (u : ℤ) → a <ℤ u → pos 0 <ℤ u → int_rem a d <ℤ u
rem_high (pos a) d u h k = let e : a % unsigned_abs d ≤ a = mod-le a (unsigned_abs d) in omega (arith, ints)
rem_high (negsuc a) d u h k = omega (arith, ints)

-- a truncated quotient and its remainder
pub rest_is : (a d r : ℤ) → r ≡ int_rem a d → r ≡ a -ℤ (d *ℤ int_div a d)
rest_is a d r e = omega (arith, ints, quot-rem a d)
