-- The number that digits write, as far as it is near 0.
use Rattle.std.proofs.Common.{◌≡◌, ℕ, suc, ◌+◌, ◌-◌, ◌*◌, ◌<◌, ◌≤◌, ◌^◌, true, List, [], ◌∷◌, length, drop, get_or, min, sym, ◌∙◌, ap, arith, ⊎_elim}
use Rattle.std.specs.List.{list_all}
use Rattle.std.proofs.lemmas.Bool.{and_parts, cases_lt}
use Rattle.std.proofs.lemmas.List.{drop_more}
use Rattle.soda_words.specs.Names.{is_digit}
use Rattle.soda_words.specs.Tokens.{value_behind}

-- the digits so far write the number as far as it is near, and the others are digits too
pub record IsNear (index number : ℕ) (digits : List ℕ) : Type 0 where
  pub small : number ≤ 2 ^ 65
  pub value : min (value_behind number (drop index digits)) (2 ^ 65) ≡ min (value_behind 0 digits) (2 ^ 65)
  pub others : list_all is_digit (drop index digits) ≡ true

-- more digits take no number near that is far
stays_far : (n far : ℕ) (ds : List ℕ) → far ≤ n → far ≤ value_behind n ds
stays_far n far [] h = h
stays_far n far (c ∷ cs) h = stays_far (n * 10 + (c - 48)) far cs (omega arith)

-- a number cut off goes on as one that isn't, as far as it is near
pub cut : (m far : ℕ) (ds : List ℕ) → min (value_behind (min m far) ds) far ≡ min (value_behind m ds) far
cut m far ds =
    ⊎_elim (λ (l : m < suc far). let same : min m far ≡ m = omega arith in ap (λ k. min (value_behind k ds) far) same) (λ (l : suc far ≤ m). let low : far ≤ min m far = omega arith in omega (arith, stays_far (min m far) far ds low, stays_far m far ds (omega arith))) (cases_lt m (suc far))

-- one more digit
pub near_more : (i n more : ℕ) (digits : List ℕ) → IsNear i n digits → i < length digits → more ≡ min (n * 10 + (get_or digits i 0 - 48)) (2 ^ 65) → IsNear (i + 1) more digits
near_more i n more digits near lt e =
    let here : drop i digits ≡ get_or digits i 0 ∷ drop (i + 1) digits = drop_more digits i 0 lt in
    let parts = and_parts (is_digit (get_or digits i 0)) (list_all is_digit (drop (i + 1) digits)) (ap (list_all is_digit) (sym here) ∙ near.others) in
    record {
      small = omega arith;
      value = ap (λ k. min (value_behind k (drop (i + 1) digits)) (2 ^ 65)) e ∙ (cut (n * 10 + (get_or digits i 0 - 48)) (2 ^ 65) (drop (i + 1) digits) ∙ (ap (λ ds. min (value_behind n ds) (2 ^ 65)) (sym here) ∙ near.value));
      others = parts.1;
    }
