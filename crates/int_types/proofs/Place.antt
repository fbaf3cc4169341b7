-- The one number of m in a row from lo that differs from v by a multiple of m.
use Rattle.std.proofs.Common.{◌≡◌, ℕ, zero, suc, ◌+◌, ◌-◌, ◌*◌, ◌/◌, ◌%◌, ◌<◌, ◌≤◌, ℤ, pos, negsuc, ◌+ℤ◌, ◌-ℤ◌, ◌≤ℤ◌, ◌<ℤ◌, unsigned_abs, arith, sym, ◌∙◌, ap, ⊎_elim}
use Rattle.std.specs.Int.{int_rem_euclid}
use Rattle.std.proofs.lemmas.Int.{ints}
use Rattle.std.proofs.lemmas.Nat.{div-add-mod', mod-mul-add}
use Rattle.std.proofs.Math.Nat.{mul-mod_left}
use Rattle.std.proofs.lemmas.Bool.{cases_lt}

-- a difference that is q times m leaves nothing
pub multiple : (x q m : ℕ) → x ≡ q * m → x % m ≡ 0
multiple x q m e = rw e (mul-mod_left q m)

pub rem_apart : (v : ℤ) (m : ℕ) → 0 < m → unsigned_abs (v -ℤ int_rem_euclid v (pos m)) % m ≡ 0
rem_apart (pos a) m h = multiple _ (a / m) m (omega (arith, ints, div-add-mod' a m))
rem_apart (negsuc a) m h = multiple _ (a / m + 1) m (omega (arith, ints, div-add-mod' a m))

pub back_apart : (v : ℤ) (m : ℕ) → 0 < m → unsigned_abs (v -ℤ (int_rem_euclid v (pos m) -ℤ pos m)) % m ≡ 0
back_apart (pos a) m h = multiple _ (a / m + 1) m (omega (arith, ints, div-add-mod' a m))
back_apart (negsuc a) m h = multiple _ (a / m) m (omega (arith, ints, div-add-mod' a m))

pub divided : (x m : ℕ) → x % m ≡ 0 → x ≡ x / m * m
divided x m e = omega (arith, div-add-mod' x m)

above : (a d m q : ℕ) → d < m → d ≤ a → a - d ≡ q * m → a % m ≡ d
above a d m q h le e = let e' : a ≡ q * m + d = omega arith in rw e' (mod-mul-add q m d h)

under : (a d m q : ℕ) → d < m → a < d → d - a ≡ q * m → ⊥
under a d m zero h lt e = omega arith
under a d m (suc q) h lt e = omega arith

beyond : (a d m q : ℕ) → d < m → a + 1 + d ≡ q * m → m - 1 - a % m ≡ d
beyond a d m zero h e = absurd (omega arith)
beyond a d m (suc q) h e =
    let e' : a ≡ q * m + (m - 1 - d) = omega arith in
    let f : a % m ≡ m - 1 - d = rw e' (mod-mul-add q m (m - 1 - d) (omega arith)) in
    omega arith

-- the rest of z is the d below m that differs from it by a multiple of m
pub rem_of : (z : ℤ) (d m : ℕ) → d < m → unsigned_abs (z -ℤ pos d) % m ≡ 0 → int_rem_euclid z (pos m) ≡ pos d
rem_of (pos a) d m h e =
    let q : unsigned_abs (pos a -ℤ pos d) ≡ unsigned_abs (pos a -ℤ pos d) / m * m = divided _ m e in
    ⊎_elim
    (λ lt. absurd (under a d m (unsigned_abs (pos a -ℤ pos d) / m) h lt (omega (arith, ints))))
    (λ le. ap pos (above a d m (unsigned_abs (pos a -ℤ pos d) / m) h le (omega (arith, ints))))
    (cases_lt a d)
rem_of (negsuc a) d m h e =
    let q : unsigned_abs (negsuc a -ℤ pos d) ≡ unsigned_abs (negsuc a -ℤ pos d) / m * m = divided _ m e in
    ap pos (beyond a d m (unsigned_abs (negsuc a -ℤ pos d) / m) h (omega (arith, ints)))

-- the number of the m in a row from lo that differs from v by a multiple of m, and no other
pub place_is : (lo v r : ℤ) (m : ℕ) → lo ≤ℤ r → r <ℤ (lo +ℤ pos m) → unsigned_abs (v -ℤ r) % m ≡ 0 → r ≡ lo +ℤ int_rem_euclid (v -ℤ lo) (pos m)
place_is lo v r m from below apart =
    let d : ℕ = unsigned_abs (r -ℤ lo) in
    let rd : r ≡ lo +ℤ pos (unsigned_abs (r -ℤ lo)) = omega (arith, ints) in
    let small : unsigned_abs (r -ℤ lo) < m = omega (arith, ints) in
    let same : v -ℤ r ≡ (v -ℤ lo) -ℤ pos (unsigned_abs (r -ℤ lo)) = omega (arith, ints) in
    let apart' : unsigned_abs ((v -ℤ lo) -ℤ pos (unsigned_abs (r -ℤ lo))) % m ≡ 0 = rw same at apart in
    rd ∙ ap (λ x. lo +ℤ x) (sym (rem_of (v -ℤ lo) (unsigned_abs (r -ℤ lo)) m small apart'))

pub rem_from : (z : ℤ) (m : ℕ) → 0 < m → pos 0 ≤ℤ int_rem_euclid z (pos m)
rem_from (pos a) m h = omega (arith, ints)
rem_from (negsuc a) m h = omega (arith, ints)

pub rem_below_size : (z : ℤ) (m : ℕ) → 0 < m → int_rem_euclid z (pos m) <ℤ pos m
rem_below_size (pos a) m h = omega (arith, ints)
rem_below_size (negsuc a) m h = omega (arith, ints)
