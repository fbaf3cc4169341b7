-- Numbers of a type are near 0, so that a number cut off far from 0 is judged as the number itself.
use Rattle.std.proofs.Common.{◌≡◌, ℕ, ◌-◌, ◌<◌, ◌≤◌, ◌^◌, Bool, true, false, Some, None, min, ℤ, refl, sym, ◌∙◌, ap, arith, if◌then◌else◌, ⊎_elim, ◌↔◌, ◌&&◌, List, subst}
use Rattle.std.proofs.lemmas.Bool.{cases_lt, false_from_ne_true, true≢false}
use Rattle.int_types.specs.Ranges.{InRange}
use Rattle.soda_words.specs.IntType.{IntType, IsType}
use Rattle.soda_words.specs.Names.{is_some_digits}
use Rattle.soda_words.specs.Tokens.{value_behind}
use Rattle.soda_words.proofs.CallerLemmas.{same_tests}
use Rattle.array_bytes.proofs.CallerLemmas.{far_is_none, in_range_of, of_in_range}
use Rattle.array_bytes.specs.Values.{begins_minus, behind_sign, is_of, with_sign}
use Rattle.param_lines.specs.Values.{decimal_value}
use Rattle.param_lines.specs.pieces.Slots.{value_in}

-- the answer for a number cut off is that for the number itself
pub near_same : (t : IntType) (s : Bool) (m : ℕ) (b : Bool) → IsType t → ((b ≡ true) ↔ InRange t (with_sign s (min m (2 ^ 65)))) → (if b then Some (with_sign s (min m (2 ^ 65))) else None) ≡ (if is_of t (with_sign s m) then Some (with_sign s m) else None)
near_same t s m b h w = ⊎_elim near beyond (cases_lt m (2 ^ 65))
  where
    near : m < 2 ^ 65 → (if b then Some (with_sign s (min m (2 ^ 65))) else None) ≡ (if is_of t (with_sign s m) then Some (with_sign s m) else None)
    near l =
        let same : min m (2 ^ 65) ≡ m = omega arith in
        let P : ℕ → Type 0 = λ k. InRange t (with_sign s k) in
        let tests : b ≡ is_of t (with_sign s m) = same_tests b (is_of t (with_sign s m)) (λ e. of_in_range t (with_sign s m) (subst P same (w.0 e))) (λ e. w.1 (subst P (sym same) (in_range_of t (with_sign s m) e))) in
        ap (λ k. if b then Some (with_sign s k) else None) same ∙ ap (λ c. if c then Some (with_sign s m) else None) tests

    beyond : 2 ^ 65 ≤ m → (if b then Some (with_sign s (min m (2 ^ 65))) else None) ≡ (if is_of t (with_sign s m) then Some (with_sign s m) else None)
    beyond l =
        let far : is_of t (with_sign s (min m (2 ^ 65))) ≡ false = far_is_none t s (min m (2 ^ 65)) h (omega arith) in
        let no : b ≡ false = false_from_ne_true b (λ e. true≢false (sym (of_in_range t (with_sign s (min m (2 ^ 65))) (w.0 e)) ∙ far)) in
        let none : is_of t (with_sign s m) ≡ false = far_is_none t s m h (omega arith) in
        ap (λ c. if c then Some (with_sign s (min m (2 ^ 65))) else None) no ∙ sym (ap (λ c. if c then Some (with_sign s m) else None) none)

-- the answer for a word whose number was cut off
pub judged : (t : IntType) (word digits : List ℕ) (minus : Bool) (near : ℕ) (value : ℤ) (b : Bool) → IsType t → digits ≡ behind_sign word → is_some_digits digits ≡ true → minus ≡ begins_minus word → near ≡ min (value_behind 0 digits) (2 ^ 65) → value ≡ with_sign minus near → ((b ≡ true) ↔ InRange t value) → (if b then Some value else None) ≡ value_in t word
judged t word digits minus near value b h d some m n v w =
    let s = begins_minus word in
    let all = behind_sign word in
    let number : near ≡ min (value_behind 0 all) (2 ^ 65) = n ∙ ap (λ (ds : List ℕ). min (value_behind 0 ds) (2 ^ 65)) d in
    let same : value ≡ with_sign s (min (value_behind 0 all) (2 ^ 65)) = v ∙ (λ i. with_sign (m i) (number i)) in
    let P : ℤ → Type 0 = λ x. (b ≡ true) ↔ InRange t x in
    ap (λ x. if b then Some x else None) same
    ∙ (near_same t s (value_behind 0 all) b h (subst P same w)
    ∙ ap (λ a. if (a && is_of t (decimal_value word)) then Some (decimal_value word) else None) (sym (ap is_some_digits (sym d) ∙ some)))
