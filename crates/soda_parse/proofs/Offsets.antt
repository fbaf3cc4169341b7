-- An offset with the left side subtracted, component by component.
use Rattle.std.proofs.Common.{◌≡◌, ℕ, zero, suc, ◌+◌, ◌<◌, ◌≤◌, true, false, List, [], ◌∷◌, ◌++◌, length, drop, ℤ, pos, refl, sym, ap, ◌∙◌, arith, append_assoc, add-one, get_or}
use Rattle.std.proofs.lemmas.List.{length-append}
use Rattle.std.proofs.lemmas.List.Folds.{list_all-append}
use Rattle.std.proofs.lemmas.Int.{ints}
use Rattle.std.proofs.lemmas.Bool.Decides.{nat_tests}
use Rattle.std.specs.Prelude.{◌-ℤ◌, slice_index_or, nat_le, nat_lt, map, unsigned_abs}
use Rattle.soda_ir.specs.Uses.{is_near}
use Rattle.soda_parse.specs.ProgramConditions.{first_past}
use Rattle.soda_parse.specs.Meaning.{offset_or_none, shifted}
use Rattle.std.specs.Cmp.Derive.{both_true}

-- the components before this one are made, all of them near
pub record IsShifted (made : List ℤ) (index : ℕ) (offsets left : List ℤ) : Type 0 where
  pub count : length made ≡ index
  pub short : length offsets ≤ 4
  pub near : is_near made ≡ true
  pub value : made ++ shifted (drop index offsets) (drop index left) ≡ shifted offsets left

-- a list from its end on
past_nil : {A : Type 0} → (i : ℕ) → drop {A = A} i [] ≡ []
past_nil zero = refl
past_nil (suc i) = refl

minus_0 : (d : ℤ) → d ≡ d -ℤ pos 0
minus_0 d = omega (arith, ints)

-- a component is what it was less that of the left side
pub split : (o l : List ℤ) (i : ℕ) → i < length o → shifted (drop i o) (drop i l) ≡
    (get_or o i (pos 0) -ℤ slice_index_or l i (pos 0)) ∷ shifted (drop (suc i) o) (drop (suc i) l)
split [] l i lt = absurd (omega arith)
split (d ∷ ds) [] zero lt = ap (λ e. e ∷ shifted ds []) (minus_0 d)
split (d ∷ ds) (e ∷ es) zero lt = refl
split (d ∷ ds) [] (suc i) lt = let h = split ds [] i (omega arith) in rw (past_nil i) at h
split (d ∷ ds) (e ∷ es) (suc i) lt = split ds es i (omega arith)

-- one component more of an offset that is made so far
pub shifted_more : (made made' offsets left : List ℤ) (i : ℕ) (near : ℤ) → IsShifted made i offsets left → i < length offsets →
    near ≡ get_or offsets i (pos 0) -ℤ slice_index_or left i (pos 0) → nat_le (unsigned_abs near) 32768 ≡ true → made' ≡ made ++ near ∷ [] →
    IsShifted made' (i + 1) offsets left
shifted_more made made' offsets left i near h lt is small more = record {
  count = ap length more ∙ (length-append made (near ∷ []) ∙ ap (λ n. n + 1) h.count);
  short = h.short;
  near = ap is_near more ∙ (list_all-append (λ (d : ℤ). nat_le (unsigned_abs d) 32768) made (near ∷ []) ∙ both_true h.near (both_true small refl));
  value = rw (more, append_assoc, add-one) (ap (λ rest. made ++ rest) (ap (λ d. d ∷ shifted (drop (suc i) offsets) (drop (suc i) left)) is ∙
      sym (split offsets left i lt)) ∙ h.value);
}

-- an offset keeps its number of components where the left side is subtracted
pub shifted_length : (o l : List ℤ) → length (shifted o l) ≡ length o
shifted_length [] l = refl
shifted_length (d ∷ ds) [] = ap suc (shifted_length ds [])
shifted_length (d ∷ ds) (e ∷ es) = ap suc (shifted_length ds es)

-- more components than dimensions are no offset
pub too_many : (o l : List ℤ) → 4 < length o → [] ≡ offset_or_none (shifted o l)
too_many o l lt =
    let n : nat_le (length (shifted o l)) 4 ≡ false = grind (arith, nat_tests, shifted_length o l) in rw n refl

-- the loop that looks for a component that is too far
pub far_more : (o l : List ℤ) (i : ℕ) → i < length o → nat_lt 32768 (unsigned_abs (get_or o i (pos 0) -ℤ slice_index_or l i (pos 0))) ≡ false →
    first_past 32768 (map unsigned_abs (shifted (drop i o) (drop i l))) ≡ first_past 32768 (map unsigned_abs (shifted (drop (i + 1) o) (drop (i + 1) l)))
far_more o l i lt near = rw (add-one, split o l i lt, near) refl
