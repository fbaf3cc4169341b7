-- One more byte of a run, and its number.
use Rattle.std.proofs.Common.{◌≡◌, ℕ, zero, suc, ◌+◌, ◌-◌, ◌*◌, ◌^◌, ◌≤◌, ◌<◌, ◌==◌, min, Bool, true, false, ◌&&◌, not, nat_le, List, [], ◌∷◌, ◌++◌, length, Option, Some, None, ℤ, pos, neg_ℤ, Result, Ok, Err, if◌then◌else◌, ◌⊎◌, inl, inr, refl, sym, subst, ◌∙◌, ap, arith, length-append}
use Rattle.std.specs.List.{list_all}
use Rattle.std.proofs.lemmas.Bool.{and_from, and_left, and_right, cases_lt, eq-eqb, eqb-true, le-leb, lt-leb, leb-true}
use Rattle.std.proofs.lemmas.List.Folds.{list_all-append}
use Rattle.soda_words.specs.IntType.{IntType, IsType}
use Rattle.soda_words.specs.Names.{is_digit, is_some_digits}
use Rattle.soda_words.specs.Tokens.{value_behind}
use Rattle.array_bytes.specs.Values.{begins_minus, behind_sign, is_cell, is_of, text_value, with_sign}
use Rattle.array_bytes.specs.Machine.Scans.{IsRunOf, Judges, far, near_value}
use Rattle.array_bytes.specs.declared.fault.CellFault.{CellFault}
use Rattle.array_bytes.specs.declared.run.Run.{Run}
use Rattle.array_bytes.proofs.Tests.{far_is_none}

-- what stands behind the sign after one more byte that is no sign
behind_more : (bytes : List ℕ) (b : ℕ) → (length bytes ≡ 0 → (b == 45) ≡ false) → behind_sign (bytes ++ b ∷ []) ≡ behind_sign bytes ++ b ∷ []
behind_more [] b h = ap (λ t. if t then [] else b ∷ []) (h refl)
behind_more (a ∷ bytes) b h = elim (a == 45) as (λ t. (if t then bytes ++ b ∷ [] else a ∷ (bytes ++ b ∷ [])) ≡ (if t then bytes else a ∷ bytes) ++ b ∷ []) [ true ↦ refl | false ↦ refl ]

minus_more : (bytes : List ℕ) (b : ℕ) → (length bytes ≡ 0 → (b == 45) ≡ false) → begins_minus (bytes ++ b ∷ []) ≡ begins_minus bytes
minus_more [] b h = h refl
minus_more (a ∷ bytes) b h = refl

value_more : (n : ℕ) (ds : List ℕ) (d : ℕ) → value_behind n (ds ++ d ∷ []) ≡ value_behind n ds * 10 + (d - 48)
value_more n [] d = refl
value_more n (e ∷ ds) d = value_more (n * 10 + (e - 48)) ds d

count_more : (bytes : List ℕ) (b old new : ℕ) → old ≡ min (length bytes) 65 → new ≡ (if nat_le old 64 then old + 1 else old) → new ≡ min (length (bytes ++ b ∷ [])) 65
count_more bytes b old new e f =
    let more : length (bytes ++ b ∷ []) ≡ length bytes + 1 = length-append bytes (b ∷ []) in
    by (cases_lt 64 old)
  where
    by : (64 < old) ⊎ (old ≤ 64) → new ≡ min (length (bytes ++ b ∷ [])) 65
    by (inl lt) = let g : new ≡ old = f ∙ ap (λ t. if t then old + 1 else old) (lt-leb old 64 lt) in omega (arith, length-append bytes (b ∷ []))
    by (inr le) = let g : new ≡ old + 1 = f ∙ ap (λ t. if t then old + 1 else old) (le-leb old 64 le) in omega (arith, length-append bytes (b ∷ []))

near_more : (v m n d : ℕ) → m ≡ min v far → n ≡ min (m * 10 + d) far → n ≡ min (v * 10 + d) far
near_more v m n d e f = omega arith

-- the run after a sign at its front
pub pushed_minus : (r z : Run) (bytes : List ℕ) (b : ℕ) → IsRunOf r bytes → r.counted ≡ 0 → b ≡ 45 → z.counted ≡ 1 → z.minus ≡ true → z.digits ≡ r.digits → z.magnitude ≡ r.magnitude → IsRunOf z (bytes ++ b ∷ [])
pushed_minus r z [] b is none e count minus digits magnitude =
    let at : (b ∷ []) ≡ (45 ∷ []) = ap (λ x. x ∷ []) e in
    let P : List ℕ → Type 0 = λ bs. IsRunOf z bs in
    subst P (sym at) (record { count = count; sign = minus; all = digits ∙ is.all; value = λ t. magnitude ∙ is.value (sym digits ∙ t) })
pushed_minus r z (a ∷ bytes) b is none e count minus digits magnitude = absurd (omega (arith, is.count))

module _ (r z : Run) (bytes : List ℕ) (b : ℕ) (is : IsRunOf r bytes) (h : length bytes ≡ 0 → (b == 45) ≡ false) (count : z.counted ≡ min (length (bytes ++ b ∷ [])) 65) (minus : z.minus ≡ r.minus) where
  all_more : list_all is_digit (behind_sign (bytes ++ b ∷ [])) ≡ (r.digits && is_digit b)
  all_more =
      ap (list_all is_digit) (behind_more bytes b h) ∙ list_all-append is_digit (behind_sign bytes) (b ∷ [])
      ∙ ap (λ t. t && (is_digit b && true)) (sym is.all) ∙ ap (λ t. r.digits && t) (and_true (is_digit b))
    where
      and_true : (t : Bool) → (t && true) ≡ t
      and_true true = refl
      and_true false = refl

  -- the run after a digit
  pub pushed_digit : is_digit b ≡ true → z.digits ≡ r.digits → z.magnitude ≡ min (r.magnitude * 10 + (b - 48)) far → IsRunOf z (bytes ++ b ∷ [])
  pushed_digit digit digits magnitude = record {
    count = count;
    sign = minus ∙ is.sign ∙ sym (minus_more bytes b h);
    all = digits ∙ sym (all_more ∙ ap (λ t. r.digits && t) digit ∙ and_true r.digits);
    value = λ t.
        near_more (value_behind 0 (behind_sign bytes)) r.magnitude z.magnitude (b - 48) (is.value (sym digits ∙ t)) magnitude
        ∙ ap (λ v. min v far) (sym (ap (value_behind 0) (behind_more bytes b h) ∙ value_more 0 (behind_sign bytes) b));
  }
    where
      and_true : (t : Bool) → (t && true) ≡ t
      and_true true = refl
      and_true false = refl

  -- the run after any other byte
  pub pushed_other : is_digit b ≡ false → z.digits ≡ false → IsRunOf z (bytes ++ b ∷ [])
  pushed_other other digits = record {
    count = count;
    sign = minus ∙ is.sign ∙ sym (minus_more bytes b h);
    all = digits ∙ sym (all_more ∙ ap (λ t. r.digits && t) other ∙ and_right r.digits false refl);
    value = λ t. absurd (by (sym digits ∙ t));
  }
    where
      by : false ≡ true → ⊥
      by e = cc

-- the number of a run
sizes : (run : List ℕ) → length run ≡ length (behind_sign run) + (if begins_minus run then 1 else 0)
sizes [] = refl
sizes (b ∷ run) = elim (b == 45) as (λ t. suc (length run) ≡ length (if t then run else b ∷ run) + (if t then 1 else 0)) [ true ↦ omega arith | false ↦ omega arith ]

some_digits : (ds : List ℕ) → 0 < length ds → is_some_digits ds ≡ list_all is_digit ds
some_digits [] h = absurd (omega arith)
some_digits (d ∷ ds) h = refl

no_digits : (ds : List ℕ) → length ds ≡ 0 → is_some_digits ds ≡ false
no_digits [] h = refl
no_digits (d ∷ ds) h = absurd (omega arith)

some_are_all : (ds : List ℕ) → list_all is_digit ds ≡ false → is_some_digits ds ≡ false
some_are_all [] h = refl
some_are_all (d ∷ ds) h = h

not_cell : (run : List ℕ) → is_cell run ≡ false → near_value run ≡ None
unfolding near_value
not_cell run e = ap (λ t. if t then Some (with_sign (begins_minus run) (min (value_behind 0 (behind_sign run)) far)) else None) e

-- it is none where it is too long, or not all digits, or none at all
pub no_value : (r : Run) (run : List ℕ) → IsRunOf r run → (64 < r.counted) ⊎ ((r.digits ≡ false) ⊎ (r.counted ≤ (if r.minus then 1 else 0))) → near_value run ≡ None
unfolding is_cell
no_value r run is (inl long) = not_cell run (and_left (nat_le (length run) 64) (is_some_digits (behind_sign run)) (lt-leb (length run) 64 (omega (arith, is.count))))
no_value r run is (inr (inl other)) = not_cell run (and_right (nat_le (length run) 64) (is_some_digits (behind_sign run)) (some_are_all (behind_sign run) (sym is.all ∙ other)))
no_value r run is (inr (inr none)) =
    let signs : r.counted ≤ (if begins_minus run then 1 else 0) = subst (λ t. r.counted ≤ (if t then 1 else 0)) is.sign none in
    let empty : length (behind_sign run) ≡ 0 = by (begins_minus run) (sizes run) signs in
    not_cell run (and_right (nat_le (length run) 64) (is_some_digits (behind_sign run)) (no_digits (behind_sign run) empty))
  where
    by : (t : Bool) → length run ≡ length (behind_sign run) + (if t then 1 else 0) → r.counted ≤ (if t then 1 else 0) → length (behind_sign run) ≡ 0
    by true e h = omega (arith, is.count)
    by false e h = omega (arith, is.count)

pub one_value : (r : Run) (run : List ℕ) → IsRunOf r run → r.counted ≤ 64 → r.digits ≡ true → (if r.minus then 1 else 0) < r.counted → near_value run ≡ Some (with_sign r.minus r.magnitude)
unfolding near_value is_cell
one_value r run is short digits some =
    let signs : (if begins_minus run then 1 else 0) < r.counted = subst (λ t. (if t then 1 else 0) < r.counted) is.sign some in
    let few : length run ≤ 64 = omega (arith, is.count) in
    let cell : (nat_le (length run) 64 && is_some_digits (behind_sign run)) ≡ true =
    and_from (nat_le (length run) 64) (is_some_digits (behind_sign run)) (le-leb (length run) 64 few) (some_digits (behind_sign run) (by (begins_minus run) (sizes run) signs) ∙ sym is.all ∙ digits) in
    ap (λ t. if t then Some (with_sign (begins_minus run) (min (value_behind 0 (behind_sign run)) far)) else None) cell
    ∙ ap (λ v. Some (with_sign (begins_minus run) v)) (sym (is.value digits)) ∙ ap (λ t. Some (with_sign t r.magnitude)) (sym is.sign)
  where
    by : (t : Bool) → length run ≡ length (behind_sign run) + (if t then 1 else 0) → (if t then 1 else 0) < r.counted → 0 < length (behind_sign run)
    by true e h = omega (arith, is.count)
    by false e h = omega (arith, is.count)

-- what is answered of a near number is answered of the number itself
near_judges : (t : IntType) (i : ℕ) (m : Bool) (v : ℕ) (result : Result ℤ CellFault) → IsType t → Judges t i (Some (with_sign m (min v far))) result → Judges t i (Some (with_sign m v)) result
near_judges t i m v result h j = by (cases_lt v far)
  where
    near : v ≤ far → Judges t i (Some (with_sign m v)) result
    near le =
        let e : min v far ≡ v = omega arith in
        let P : ℕ → Type 0 = λ w. Judges t i (Some (with_sign m w)) result in
        subst P e j

    none : far ≤ v → (x : Result ℤ CellFault) → Judges t i (Some (with_sign m (min v far))) x → Judges t i (Some (with_sign m v)) x
    none ge (Ok c) k =
        let fails : is_of t (with_sign m (min v far)) ≡ false = far_is_none t m (min v far) h (omega arith) in
        absurd (bad (sym fails ∙ k.1))
      where
        bad : false ≡ true → ⊥
        bad e = cc
    none ge (Err f) k = (k.0, far_is_none t m v h ge)

    by : (v < far) ⊎ (far ≤ v) → Judges t i (Some (with_sign m v)) result
    by (inl lt) = near (omega arith)
    by (inr ge) = none ge result j

pub judges_run : (t : IntType) (i : ℕ) (run : List ℕ) (result : Result ℤ CellFault) → IsType t → Judges t i (near_value run) result → Judges t i (text_value run) result
unfolding near_value text_value
judges_run t i run result h j =
    elim (is_cell run) as (λ b. Judges t i (if b then Some (with_sign (begins_minus run) (min (value_behind 0 (behind_sign run)) far)) else None) result
    → Judges t i (if b then Some (with_sign (begins_minus run) (value_behind 0 (behind_sign run))) else None) result) [
      | true ↦ λ k. near_judges t i (begins_minus run) (value_behind 0 (behind_sign run)) result h k
      | false ↦ λ k. k
    ] j

-- a byte that is no sign at the front
pub not_sign : (bytes : List ℕ) (n b : ℕ) → n ≡ min (length bytes) 65 → ((n == 0) && (b == 45)) ≡ false → length bytes ≡ 0 → (b == 45) ≡ false
not_sign bytes n b e f none =
    let z : n ≡ 0 = omega arith in
    sym (ap (λ t. t && (b == 45)) (eq-eqb n 0 z)) ∙ f
