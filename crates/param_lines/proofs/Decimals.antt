-- Values in decimal are words that write them.
use Rattle.std.proofs.Common.{◌≡◌, ℕ, suc, ◌-◌, ◌<◌, ◌^◌, ◌==◌, Bool, true, false, List, [], ◌∷◌, map, length, All, ℤ, pos, negsuc, unsigned_abs, refl, sym, ◌∙◌, ap, arith, lit<, if◌then◌else◌, ◌≤◌}
use Rattle.std.specs.Fmt.{decimal, signed_decimal}
use Rattle.std.specs.List.{list_all}
use Rattle.std.proofs.Math.Nat.{pow-le-pow_right}
use Rattle.std.proofs.lemmas.Bool.{and_from, and_parts, eq-eqb, eqb-true, false_from_ne_true}
use Rattle.std.proofs.lemmas.Fmt.{decimal_nonempty, digits_decimal, digits_value-decimal}
use Rattle.std.proofs.lemmas.Int.{ints}
use Rattle.std.proofs.lemmas.List.{length-map}
use Rattle.std.proofs.lemmas.List.Elements.{All-head, All-tail}
use Rattle.int_types.specs.Ranges.{InRange}
use Rattle.soda_words.specs.IntType.{IntType, IsType}
use Rattle.soda_words.specs.Names.{is_digit, is_some_digits}
use Rattle.soda_words.specs.Tokens.{value_behind}
use Rattle.soda_words.proofs.CallerLemmas.{digits_words, own, some_digits}
use Rattle.soda_ir.specs.Points.{size}
use Rattle.soda_ir.specs.Program.{PlainParam}
use Rattle.soda_eval.specs.Runs.{IsArray}
use Rattle.array_bytes.specs.Values.{begins_minus, behind_sign, is_of, with_sign}
use Rattle.array_bytes.proofs.CallerLemmas.{of_in_range}
use Rattle.param_lines.specs.Values.{are_values, decimal_value, is_decimal, is_value_of}
use Rattle.param_lines.proofs.Spaced.{IsWord, all_dark}

small_by : (s : Bool) (n : ℕ) (v : ℤ) → n ≤ 64 → InRange (record { signed = s; bits = n }) v → unsigned_abs v < 2 ^ 64
small_by true n v h r =
    let e : 2 ^ (n - 1) ≤ 2 ^ 63 = pow-le-pow_right {n = 2} (lit< tt) {i = n - 1} {j = 63} (omega arith) in omega (arith, ints)
small_by false n v h r = let e : 2 ^ n ≤ 2 ^ 64 = pow-le-pow_right {n = 2} (lit< tt) {i = n} {j = 64} h in omega (arith, ints)

-- a number of a type is below 2 ^ 64, whatever its sign
pub small : (t : IntType) (v : ℤ) → IsType t → InRange t v → unsigned_abs v < 2 ^ 64
small t v h r = small_by t.signed t.bits v h.most r

no_sign : (ds : List ℕ) → list_all is_digit ds ≡ true → 0 < length ds → (behind_sign ds ≡ ds) × (begins_minus ds ≡ false)
no_sign [] h l = absurd (omega arith)
no_sign (d ∷ ds) h l =
    let digit = (and_parts (is_digit d) (list_all is_digit ds) h).0 in
    let no : (d == 45) ≡ false = false_from_ne_true (d == 45) (λ e. let minus : is_digit 45 ≡ true = ap is_digit (sym (eqb-true d 45 e)) ∙ digit in cc) in
    (ap (λ t. if t then ds else d ∷ ds) no, no)

pub word_of : (v : ℤ) → unsigned_abs v < 2 ^ 64 → IsWord (signed_decimal v)
word_of (pos n) h =
    record { some = decimal_nonempty n h; dark = all_dark (decimal n) (digits_words (decimal n) (digits_decimal own n h)) }
word_of (negsuc n) h =
    record { some = omega arith; dark = all_dark (decimal (suc n)) (digits_words (decimal (suc n)) (digits_decimal own (suc n) h)) }

is_one : (v : ℤ) → unsigned_abs v < 2 ^ 64 → is_decimal (signed_decimal v) ≡ true
is_one (pos n) h =
    let digits = digits_decimal own n h in
    ap is_some_digits (no_sign (decimal n) digits (decimal_nonempty n h)).0 ∙ some_digits (decimal n) digits (decimal_nonempty n h)
is_one (negsuc n) h = some_digits (decimal (suc n)) (digits_decimal own (suc n) h) (decimal_nonempty (suc n) h)

back : (v : ℤ) → unsigned_abs v < 2 ^ 64 → decimal_value (signed_decimal v) ≡ v
back (pos n) h =
    let none = no_sign (decimal n) (digits_decimal own n h) (decimal_nonempty n h) in
    let front = none.0 in
    let minus = none.1 in
    (λ i. with_sign (minus i) (value_behind 0 (front i))) ∙ ap (λ k. pos k) (digits_value-decimal own n h)
back (negsuc n) h = ap (with_sign true) (digits_value-decimal own (suc n) h)

value_of : (t : IntType) (v : ℤ) → IsType t → InRange t v → is_value_of t (signed_decimal v) ≡ true
value_of t v h r =
    and_from (is_decimal (signed_decimal v)) (is_of t (decimal_value (signed_decimal v))) (is_one v (small t v h r)) (ap (is_of t) (back v (small t v h r)) ∙ of_in_range t v r)

all_values : (t : IntType) (vs : List ℤ) → IsType t → All (λ v. InRange t v) vs → list_all (is_value_of t) (map signed_decimal vs) ≡ true
all_values t [] h k = refl
all_values t (v ∷ vs) h k =
    and_from (is_value_of t (signed_decimal v)) (list_all (is_value_of t) (map signed_decimal vs)) (value_of t v h (All-head (λ (v : ℤ). InRange t v) v vs k)) (all_values t vs h (All-tail (λ (v : ℤ). InRange t v) v vs k))

-- the values of a param in decimal are values of it
pub are_its_values : (p : PlainParam) (vs : List ℤ) → IsType p.ty → IsArray p.ty (size p.sizes) vs → are_values p (map signed_decimal vs) ≡ true
are_its_values p vs h a =
    and_from (length (map signed_decimal vs) == size p.sizes) (list_all (is_value_of p.ty) (map signed_decimal vs)) (eq-eqb (length (map signed_decimal vs)) (size p.sizes) (length-map vs signed_decimal ∙ a.whole)) (all_values p.ty vs h a.in_range)

pub all_words : (t : IntType) (vs : List ℤ) → IsType t → All (λ v. InRange t v) vs → All (λ v. IsWord (signed_decimal v)) vs
all_words t vs h k = λ i d l. word_of _ (small t _ h (k i d l))

-- and write them
pub all_back : (t : IntType) (vs : List ℤ) → IsType t → All (λ v. InRange t v) vs → map decimal_value (map signed_decimal vs) ≡ vs
all_back t [] h k = refl
all_back t (v ∷ vs) h k =
    let first = back v (small t v h (All-head (λ (v : ℤ). InRange t v) v vs k)) in
    let more = all_back t vs h (All-tail (λ (v : ℤ). InRange t v) v vs k) in
    λ i. first i ∷ more i
