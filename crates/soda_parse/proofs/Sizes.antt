-- What the limits say where none is passed.
use Rattle.std.proofs.Common.{◌≡◌, ℕ, ◌*◌, ◌<◌, ◌≤◌, ◌&&◌, Bool, true, false, not, List, [], ◌∷◌, length, Some, None, refl, arith, mul-one, subst, cond, mul_assoc, ◌==◌}
use Rattle.std.specs.Prelude.{nat_le, nat_lt}
use Rattle.std.proofs.lemmas.Bool.Decides.{nat_tests}
use Rattle.std.specs.List.{list_any}
use Rattle.soda_checks.specs.Conditions.{has_output, is_kind, missing, need_unless}
use Rattle.soda_checks.specs.declared.need.Need.{Need}
use Rattle.soda_checks.specs.declared.need.Need.TheVariants.{Kernel as NeedKernel, BurstWidth as NeedWidth, UnrollFactor as NeedFactor, Input as NeedInput, Output as NeedOutput}
use Rattle.soda_checks.specs.declared.outline.SettingKind.TheVariants.{Kernel, BurstWidth, UnrollFactor}
use Rattle.soda_checks.specs.declared.outline.Outline.{Outline}
use Rattle.soda_ir.specs.Points.{size}
use Rattle.soda_parse.specs.ProgramConditions.{first_past, partial_products, unless_within}
use Rattle.soda_parse.proofs.Kept.{none_first, none_second}
use Rattle.soda_parse.proofs.SameTypes.{both_of}
use Rattle.soda_parse.proofs.Tiling.{none_here}

not_past : (m n : ℕ) → nat_lt m n ≡ false → n ≤ m
not_past m n e = grind (arith, nat_tests, e)

within_by : (l m n : ℕ) (b : Bool) → (nat_le l n && nat_le n m) ≡ b → cond b None (Some n) ≡ None → (l ≤ n) × (n ≤ m)
within_by l m n true is e =
    let both = both_of (nat_le l n) (nat_le n m) is in (grind (arith, nat_tests, both.0), grind (arith, nat_tests, both.1))
within_by l m n false is e = cc

-- a number that is not told is within its bounds
pub within : (l m n : ℕ) → unless_within l m n ≡ None → (l ≤ n) × (n ≤ m)
within l m n e = within_by l m n (nat_le l n && nat_le n m) refl e

-- a product none of whose partial products passes the most is at most this
pub product_small : (n : ℕ) (ks : List ℕ) → n ≤ 16777216 → first_past 16777216 (partial_products n ks) ≡ None → n * size ks ≤ 16777216
product_small n [] le e = omega (arith, mul-one n)
product_small n (k ∷ ks) le e =
    let here = none_here (λ (m : ℕ). nat_lt 16777216 m) (n * k) (partial_products (n * k) ks) e in
    let more = product_small (n * k) ks (not_past 16777216 (n * k) here.0) here.1 in
    subst (λ (m : ℕ). m ≤ 16777216) (mul_assoc n k (size ks)) more

need_there : (b : Bool) (n : Need) → need_unless b n ≡ None → b ≡ true
need_there true n e = refl
need_there false n e = cc

-- what a text must have is there
pub record HasAll (o : Outline) : Type 0 where
  pub kernel : list_any (is_kind Kernel) o.settings ≡ true
  pub input : 0 < length o.inputs
  pub output : has_output o.defined ≡ true

not_zero : (n : ℕ) → not (n == 0) ≡ true → 0 < n
not_zero n e = grind (arith, nat_tests, e)

-- where nothing is missing, each statement that must be is there
pub has_all : (o : Outline) → missing o ≡ None → HasAll o
has_all o e =
    let a = none_second (need_unless (list_any (is_kind Kernel) o.settings) NeedKernel) _ e in
    let b = none_second (need_unless (list_any (is_kind BurstWidth) o.settings) NeedWidth) _ a in
    let c = none_second (need_unless (list_any (is_kind UnrollFactor) o.settings) NeedFactor) _ b in
    record {
      kernel = need_there _ NeedKernel (none_first (need_unless (list_any (is_kind Kernel) o.settings) NeedKernel) _ e);
      input = not_zero (length o.inputs) (need_there _ NeedInput (none_first (need_unless (not (length o.inputs == 0)) NeedInput) _ c));
      output = need_there _ NeedOutput (none_second (need_unless (not (length o.inputs == 0)) NeedInput) _ c);
    }
