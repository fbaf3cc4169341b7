-- After as many rounds as there are tensors no round places more.
use Rattle.std.proofs.Common.{◌≡◌, ℕ, zero, suc, ◌<◌, ◌≤◌, Bool, true, false, ◌&&◌, Option, Some, None, slice_get, length, refl, sym, ◌∙◌, ap, arith, ◌⊎◌, ⊎_elim, inl, inr}
use Rattle.std.proofs.lemmas.Bool.{and_from, and_parts, cases_lt, false≢true}
use Rattle.std.proofs.lemmas.Option.{slice_get_past}
use Rattle.soda_ir.specs.Formula.{by_formula, every}
use Rattle.soda_ir.specs.Counts.{can_be_placed, count_below, has_place, tensor_is}
use Rattle.soda_ir.specs.Formula.{Formula, number, read, param, unary, binary, choice, cast}
use Rattle.soda_ir.specs.Program.{PlainProgram, PlainTensor}
use Rattle.soda_ir.proofs.Passing.{count_same}

-- no test passes past the last tensor
pub past_last : (test : PlainTensor → Bool) (p : PlainProgram) (x : ℕ) → length p.tensors ≤ x → tensor_is test p x ≡ false
past_last test p x h =
    ap (λ (o : Option PlainTensor). elim o [ None ↦ false | Some t ↦ test t ]) (slice_get_past p.tensors x h)

-- what is ready by some marks is ready by more
module _ (a b : ℕ → Bool) (more : (y : ℕ) → a y ≡ true → b y ≡ true) where
  every_more : (f : Formula) → every (λ y o. a y) f ≡ true → every (λ y o. b y) f ≡ true
  every_more (number n) e = refl
  every_more (read t o) e = more t e
  every_more (param p k) e = refl
  every_more (unary op x) e = every_more x e
  every_more (binary op x y) e =
      let both = and_parts (every (λ y o. a y) x) (every (λ y o. a y) y) e in
      and_from _ _ (every_more x both.0) (every_more y both.1)
  every_more (choice c x y) e =
      let both = and_parts (every (λ y o. a y) c && every (λ y o. a y) x) (every (λ y o. a y) y) e in
      let first = and_parts (every (λ y o. a y) c) (every (λ y o. a y) x) both.0 in
      and_from _ _ (and_from _ _ (every_more c first.0) (every_more x first.1)) (every_more y both.1)
  every_more (cast t x) e = every_more x e

  formula_more : (o : Option Formula) → by_formula o true (every (λ y o. a y)) ≡ true → by_formula o true (every (λ y o. b y)) ≡ true
  formula_more None e = refl
  formula_more (Some f) e = every_more f e

  tensor_more : (o : Option PlainTensor) → elim o [ None ↦ false | Some t ↦ by_formula t.formula true (every (λ y o. a y)) ] ≡ true → elim o [ None ↦ false | Some t ↦ by_formula t.formula true (every (λ y o. b y)) ] ≡ true
  tensor_more None e = e
  tensor_more (Some t) e = formula_more t.formula e

  pub ready_more : (p : PlainProgram) (x : ℕ) → tensor_is (λ t. by_formula t.formula true (every (λ y o. a y))) p x ≡ true → tensor_is (λ t. by_formula t.formula true (every (λ y o. b y))) p x ≡ true
  ready_more p x e = tensor_more (slice_get p.tensors x) e

-- a round more keeps what is placed
pub place_kept : (p : PlainProgram) (k x : ℕ) → has_place p k x ≡ true → has_place p (suc k) x ≡ true
place_kept p zero x e = absurd (false≢true e)
place_kept p (suc k) x e = ready_more (has_place p k) (has_place p (suc k)) (place_kept p k) p x e

count_all : (n : ℕ) → count_below (λ x. true) n ≡ n
count_all zero = refl
count_all (suc n) = omega (arith, count_all n)

-- a round that places nothing more, and the next one
next_still : (p : PlainProgram) (k : ℕ) → ((x : ℕ) → has_place p (suc k) x ≡ true → has_place p k x ≡ true) → (x : ℕ) → has_place p (suc (suc k)) x ≡ true → has_place p (suc k) x ≡ true
next_still p k h x e = ready_more (has_place p (suc k)) (has_place p k) h p x e

-- a round that counts no more places nothing more
uncounted : (p : PlainProgram) (k : ℕ) → count_below (has_place p (suc k)) (length p.tensors) ≤ count_below (has_place p k) (length p.tensors) → (x : ℕ) → has_place p (suc k) x ≡ true → has_place p k x ≡ true
uncounted p k l x e =
    ⊎_elim (λ (b : x < length p.tensors). count_same (has_place p k) (has_place p (suc k)) (length p.tensors) (place_kept p k) l x b e) (λ (b : length p.tensors ≤ x). absurd (false≢true (sym (past_last _ p x b) ∙ e))) (cases_lt x (length p.tensors))

-- after k rounds k tensors are placed, or no round places more
counted : (p : PlainProgram) (k : ℕ) → (k ≤ count_below (has_place p k) (length p.tensors)) ⊎ ((x : ℕ) → has_place p (suc k) x ≡ true → has_place p k x ≡ true)
counted p zero = inl (omega arith)
counted p (suc k) =
    ⊎_elim (λ (l : k ≤ count_below (has_place p k) (length p.tensors)). ⊎_elim (λ (m : count_below (has_place p k) (length p.tensors) < count_below (has_place p (suc k)) (length p.tensors)). inl (omega arith)) (λ (m : count_below (has_place p (suc k)) (length p.tensors) ≤ count_below (has_place p k) (length p.tensors)). inr (next_still p k (uncounted p k m))) (cases_lt (count_below (has_place p k) (length p.tensors)) (count_below (has_place p (suc k)) (length p.tensors)))) (λ (h : (x : ℕ) → has_place p (suc k) x ≡ true → has_place p k x ≡ true). inr (next_still p k h)) (counted p k)

-- where as many are placed as there are tensors, a round places nothing more
full : (p : PlainProgram) (k : ℕ) → length p.tensors ≤ count_below (has_place p k) (length p.tensors) → (x : ℕ) → has_place p (suc k) x ≡ true → has_place p k x ≡ true
full p k l x e =
    ⊎_elim (λ (b : x < length p.tensors). count_same (has_place p k) (λ y. true) (length p.tensors) (λ y d. refl) (omega (arith, count_all (length p.tensors))) x b refl) (λ (b : length p.tensors ≤ x). absurd (false≢true (sym (past_last _ p x b) ∙ e))) (cases_lt x (length p.tensors))

settled : (p : PlainProgram) (x : ℕ) → has_place p (suc (length p.tensors)) x ≡ true → can_be_placed p x ≡ true
settled p =
    ⊎_elim (full p (length p.tensors)) (λ (h : (x : ℕ) → has_place p (suc (length p.tensors)) x ≡ true → has_place p (length p.tensors) x ≡ true). h) (counted p (length p.tensors))

-- a tensor can be placed where all that it reads is marked, and only what can be placed is marked
pub ready_placed : (p : PlainProgram) (marks : ℕ → Bool) → ((y : ℕ) → marks y ≡ true → can_be_placed p y ≡ true) → (x : ℕ) → tensor_is (λ t. by_formula t.formula true (every (λ y o. marks y))) p x ≡ true → can_be_placed p x ≡ true
ready_placed p marks h x e = settled p x (ready_more marks (can_be_placed p) h p x e)
