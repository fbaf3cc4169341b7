-- How many numbers pass a test, and a test that more of them pass.
use Rattle.std.proofs.Common.{◌≡◌, ℕ, zero, suc, ◌+◌, ◌<◌, ◌≤◌, Bool, true, false, ap, arith, refl, ◌∙◌, ⊎_elim, if◌then◌else◌}
use Rattle.std.proofs.lemmas.Bool.{cases_lt, false≢true, true_from_ne_false}
use Rattle.soda_ir.specs.Counts.{count_below}

-- a test that more numbers pass counts no fewer
one_more : (a b : Bool) → (a ≡ true → b ≡ true) → (if a then 1 else 0) ≤ (if b then 1 else 0)
one_more true true h = omega arith
one_more true false h = absurd (false≢true (h refl))
one_more false true h = omega arith
one_more false false h = omega arith

pub count_more : (f g : ℕ → Bool) (n : ℕ) → ((x : ℕ) → f x ≡ true → g x ≡ true) → count_below f n ≤ count_below g n
count_more f g zero h = omega arith
count_more f g (suc n) h = omega (arith, count_more f g n h, one_more (f n) (g n) (h n))

-- and more where one number passes that test alone
pub count_rises : (f g : ℕ → Bool) (n y : ℕ) → ((x : ℕ) → f x ≡ true → g x ≡ true) → y < n → f y ≡ false → g y ≡ true → count_below f n < count_below g n
count_rises f g zero y h l a b = absurd (omega arith)
count_rises f g (suc n) y h l a b =
    ⊎_elim (λ (m : y < n). omega (arith, count_rises f g n y h m a b, one_more (f n) (g n) (h n))) (λ (m : n ≤ y). let i : n ≡ y = omega arith in let none : ◌≡◌ {A = ℕ} (if f n then 1 else 0) 0 = ap (λ c. if c then 1 else 0) (ap f i ∙ a) in let one : ◌≡◌ {A = ℕ} (if g n then 1 else 0) 1 = ap (λ c. if c then 1 else 0) (ap g i ∙ b) in omega (arith, count_more f g n h, none, one)) (cases_lt y n)

-- as many pass as there are, at most
one_at_most : (b : Bool) (k n : ℕ) → k ≤ n → k + (if b then 1 else 0) ≤ suc n
one_at_most true k n h = omega arith
one_at_most false k n h = omega arith

pub few_below : (f : ℕ → Bool) (n : ℕ) → count_below f n ≤ n
few_below f zero = omega arith
few_below f (suc n) = one_at_most (f n) (count_below f n) n (few_below f n)

one_full : (b : Bool) (k n : ℕ) → k ≤ n → suc n ≤ k + (if b then 1 else 0) → (b ≡ true) × (n ≤ k)
one_full true k n l h = (refl, omega arith)
one_full false k n l h = absurd (omega arith)

-- where all numbers below n are counted, each of them passes
pub count_full : (f : ℕ → Bool) (n : ℕ) → n ≤ count_below f n → (x : ℕ) → x < n → f x ≡ true
count_full f zero h x l = absurd (omega arith)
count_full f (suc n) h x l =
    let full = one_full (f n) (count_below f n) n (few_below f n) h in
    ⊎_elim (λ (m : x < n). count_full f n full.1 x m) (λ (m : n ≤ x). let i : x ≡ n = omega arith in ap f i ∙ full.0) (cases_lt x n)

-- where no more pass the other test, they are the same
pub count_same : (f g : ℕ → Bool) (n : ℕ) → ((x : ℕ) → f x ≡ true → g x ≡ true) → count_below g n ≤ count_below f n → (x : ℕ) → x < n → g x ≡ true → f x ≡ true
count_same f g n h l x b e =
    true_from_ne_false (f x) (λ d. absurd (omega (arith, count_rises f g n x h b d e)))
