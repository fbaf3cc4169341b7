-- The quotient that is truncated toward zero.
use Rattle.std.proofs.Common.{◌≡◌, ◌≢◌, ℕ, zero, suc, ◌*◌, ◌/◌, ◌<◌, ◌≤◌, ℤ, pos, negsuc, neg_ℤ, unsigned_abs, arith, refl, ◌∙◌, ap, subst}
use Rattle.std.specs.Int.RustNames.{int_div, int_rem}
use Rattle.std.proofs.lemmas.Int.{unsigned_abs-mul, rem_below}
use Rattle.std.proofs.lemmas.Nat.{div-add-mod'}
use Rattle.int_types.specs.Laws.{IsTruncated}
use Rattle.int_types.proofs.Bounds.{rest_is}

nonzero : (y : ℤ) → y ≢ pos 0 → 0 < unsigned_abs y
nonzero (pos zero) h = absurd (h refl)
nonzero (pos (suc n)) h = omega arith
nonzero (negsuc n) h = omega arith

abs-neg : (n : ℕ) → unsigned_abs (neg_ℤ (pos n)) ≡ n
abs-neg zero = refl
abs-neg (suc n) = refl

abs-div : (x y : ℤ) → unsigned_abs (int_div x y) ≡ unsigned_abs x / unsigned_abs y
abs-div (pos a) (pos d) = refl
abs-div (pos a) (negsuc d) = abs-neg (a / suc d)
abs-div (negsuc a) (pos d) = abs-neg (suc a / d)
abs-div (negsuc a) (negsuc d) = refl

times : (a d : ℕ) → d * (a / d) ≤ a
times a d = omega (arith, div-add-mod' a d)

pub truncated : (x y : ℤ) → y ≢ pos 0 → IsTruncated x y (int_div x y)
truncated x y h =
    record {
      near = subst (λ (r : ℤ). unsigned_abs r < unsigned_abs y) (rest_is x y (int_rem x y) refl) (rem_below x y (nonzero y h));
      toward_zero = rw (unsigned_abs-mul y (int_div x y) ∙ ap (λ (n : ℕ). unsigned_abs y * n) (abs-div x y)) (times (unsigned_abs x) (unsigned_abs y));
    }
