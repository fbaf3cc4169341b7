-- As many rounds as there are tensors are enough: placing, and what is needed, are settled by then.
use Rattle.std.proofs.Common.{◌≡◌, ℕ, zero, suc, ◌<◌, ◌≤◌, Bool, true, false, ◌&&◌, ◌||◌, length, refl, sym, ◌∙◌, ap, arith, ◌⊎◌, ⊎_elim, inl, inr}
use Rattle.std.proofs.lemmas.Bool.{and_from, and_parts, cases_lt, false≢true, or_cases, or_left, or_right}
use Rattle.soda_ir.specs.Counts.{can_be_placed, count_below, has_place, is_reached, some_below, tensor_is}
use Rattle.soda_ir.specs.Formula.{by_formula, every}
use Rattle.soda_ir.specs.Program.{PlainProgram}
use Rattle.soda_ir.proofs.CallerLemmas.{count_full, count_same, place_kept, reached_none, reached_step, ready_more, ready_placed, some_below_same}
use Rattle.soda_words.proofs.CallerLemmas.{same_tests}

pub placed_settled : (p : PlainProgram) (x : ℕ) → can_be_placed p x ≡ tensor_is (λ t. by_formula t.formula true (every (λ y o. can_be_placed p y))) p x
placed_settled p x =
    same_tests (can_be_placed p x) (tensor_is (λ t. by_formula t.formula true (every (λ y o. can_be_placed p y))) p x) (place_kept p (length p.tensors) x) (ready_placed p (can_be_placed p) (λ y e. e) x)

some_more : (f g : ℕ → Bool) (n : ℕ) → ((y : ℕ) → f y ≡ true → g y ≡ true) → some_below f n ≡ true → some_below g n ≡ true
some_more f g zero h e = e
some_more f g (suc n) h e =
    ⊎_elim (λ (d : some_below f n ≡ true). or_left (some_below g n) (g n) (some_more f g n h d)) (λ (d : f n ≡ true). or_right (some_below g n) (g n) (h n d)) (or_cases (some_below f n) (f n) e)

absorbed : (w s t : Bool) → (s ≡ true → t ≡ true) → ((w || s) || t) ≡ (w || t)
absorbed true s t h = refl
absorbed false true t h = sym (h refl)
absorbed false false t h = refl

module _ (r : ℕ → ℕ → Bool) (n : ℕ) (w : ℕ → Bool) where
  -- what these rounds read
  abbrev read_by : ℕ → ℕ → Bool
  read_by k x = some_below (λ y. is_reached r n w k y && r y x) n

  more : (k y : ℕ) → is_reached r n w k y ≡ true → is_reached r n w (suc k) y ≡ true
  more k y e = reached_step r n w k y ∙ or_left (is_reached r n w k y) (read_by k y) e

  read_more : (k x : ℕ) → read_by k x ≡ true → read_by (suc k) x ≡ true
  read_more k x e =
      some_more (λ y. is_reached r n w k y && r y x) (λ y. is_reached r n w (suc k) y && r y x) n (λ y d. let both = and_parts (is_reached r n w k y) (r y x) d in and_from (is_reached r n w (suc k) y) (r y x) (more k y both.0) both.1) e

  -- after one round more a tensor is wanted, or read by what is reached before it
  reached_by : (k x : ℕ) → is_reached r n w (suc k) x ≡ (w x || read_by k x)
  reached_by zero x = reached_step r n w 0 x ∙ ap (λ b. b || read_by 0 x) (reached_none r n w x)
  reached_by (suc k) x =
      reached_step r n w (suc k) x ∙ ap (λ b. b || read_by (suc k) x) (reached_by k x) ∙ absorbed (w x) (read_by k x) (read_by (suc k) x) (read_more k x)

  still : (k : ℕ) → ((y : ℕ) → y < n → is_reached r n w (suc k) y ≡ is_reached r n w k y) → (y : ℕ) → y < n → is_reached r n w (suc (suc k)) y ≡ is_reached r n w (suc k) y
  still k h y b =
      reached_by (suc k) y
      ∙ ap (λ c. w y || c) (some_below_same (λ z. is_reached r n w (suc k) z && r z y) (λ z. is_reached r n w k z && r z y) n (λ z d. ap (λ c. c && r z y) (h z d)))
      ∙ sym (reached_by k y)

  -- after k rounds k tensors are reached, or the next one reaches no more
  counted : (k : ℕ) → (k ≤ count_below (is_reached r n w k) n) ⊎ ((y : ℕ) → y < n → is_reached r n w (suc k) y ≡ is_reached r n w k y)
  counted zero = inl (omega arith)
  counted (suc k) =
      ⊎_elim (λ (l : k ≤ count_below (is_reached r n w k) n). ⊎_elim (λ (m : count_below (is_reached r n w k) n < count_below (is_reached r n w (suc k)) n). inl (omega arith)) (λ (m : count_below (is_reached r n w (suc k)) n ≤ count_below (is_reached r n w k) n). inr (still k (λ y b. same_tests (is_reached r n w (suc k) y) (is_reached r n w k y) (count_same (is_reached r n w k) (is_reached r n w (suc k)) n (more k) m y b) (more k y)))) (cases_lt (count_below (is_reached r n w k) n) (count_below (is_reached r n w (suc k)) n))) (λ (h : (y : ℕ) → y < n → is_reached r n w (suc k) y ≡ is_reached r n w k y). inr (still k h)) (counted k)

  pub reached_settled : (x : ℕ) → x < n → is_reached r n w n x ≡ (w x || some_below (λ y. is_reached r n w n y && r y x) n)
  reached_settled x l =
      ⊎_elim (λ (full : n ≤ count_below (is_reached r n w n) n). let all = count_full (is_reached r n w n) n full x l in all ∙ sym (more n x all)) (λ (h : (y : ℕ) → y < n → is_reached r n w (suc n) y ≡ is_reached r n w n y). sym (h x l)) (counted n) ∙ reached_by n x
