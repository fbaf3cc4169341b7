-- Margins number by number: the lists that they make, and how great they are.
use Rattle.std.proofs.Common.{◌≡◌, ℕ, zero, suc, ◌+◌, ◌<◌, ◌≤◌, max, Bool, true, ◌&&◌, List, [], ◌∷◌, ◌++◌, length, replicate, slice_index_or, ℤ, pos, negsuc, ◌+ℤ◌, ◌-ℤ◌, unsigned_abs, refl, sym, ◌∙◌, ap, arith, ⊎_elim}
use Rattle.std.proofs.lemmas.Bool.{and_parts, cases_lt}
use Rattle.std.proofs.lemmas.Int.{ints}
use Rattle.soda_ir.specs.Formula.{Formula, number, read, param, unary, binary, choice, cast, every}
use Rattle.soda_ir.specs.Points.{listed}
use Rattle.soda_words.specs.Limits.{most_offset}
use Rattle.soda_ir.proofs.CallerLemmas.{get-listed, get-listed-past, listed-cons}
use Rattle.time_stages.specs.declared.margins.Margins.{Margins}
use Rattle.time_stages.specs.declared.margins.Side.{Side}
use Rattle.time_stages.specs.declared.margins.Side.TheVariants.{Low, High}
use Rattle.time_stages.specs.Margins.{at_least_none, formula_margins, greatest, high_needed, low_needed, needed, no_margins, widest}
use Rattle.time_stages.specs.pieces.Numbers.{formula_number, margins_made, number_at, number_needed, numbers_of, side_of}

-- past the last tensor there is no number
pub no_number : (side : Side) (dim : ℕ) → 0 ≡ slice_index_or (side_of side (no_margins 0)) dim 0
no_number Low dim = refl
no_number High dim = refl

-- a list of the same value over and over
listed_alike : (k n : ℕ) → listed (λ d. k) n ≡ replicate n k
listed_alike k zero = refl
listed_alike k (suc n) = listed-cons (λ d. k) n ∙ ap (λ xs. k ∷ xs) (listed_alike k n)

listed_greatest : (f g : ℕ → ℕ) (n : ℕ) → listed (λ d. max (f d) (g d)) n ≡ greatest (listed f n) (listed g n)
listed_greatest f g zero = refl
listed_greatest f g (suc n) =
    listed-cons (λ d. max (f d) (g d)) n
    ∙ ap (λ xs. max (f 0) (g 0) ∷ xs) (listed_greatest (λ d. f (suc d)) (λ d. g (suc d)) n)
    ∙ sym (ap (λ xs. greatest xs (listed g (suc n))) (listed-cons f n) ∙ ap (λ xs. greatest (f 0 ∷ listed (λ d. f (suc d)) n) xs) (listed-cons g n))

listed_low : (ms : List ℕ) (o : List ℤ) (n : ℕ) → length ms ≡ n → length o ≡ n → listed (λ d. at_least_none (pos (slice_index_or ms d 0) -ℤ slice_index_or o d (pos 0))) n ≡ low_needed ms o
listed_low [] o zero h k = refl
listed_low [] o (suc n) h k = absurd (omega arith)
listed_low (m ∷ ms) [] zero h k = absurd (omega arith)
listed_low (m ∷ ms) [] (suc n) h k = absurd (omega arith)
listed_low (m ∷ ms) (x ∷ xs) zero h k = absurd (omega arith)
listed_low (m ∷ ms) (x ∷ xs) (suc n) h k =
    listed-cons (λ d. at_least_none (pos (slice_index_or (m ∷ ms) d 0) -ℤ slice_index_or (x ∷ xs) d (pos 0))) n ∙ ap (λ zs. at_least_none (pos m -ℤ x) ∷ zs) (listed_low ms xs n (omega arith) (omega arith))

listed_high : (ms : List ℕ) (o : List ℤ) (n : ℕ) → length ms ≡ n → length o ≡ n → listed (λ d. at_least_none (pos (slice_index_or ms d 0) +ℤ slice_index_or o d (pos 0))) n ≡ high_needed ms o
listed_high [] o zero h k = refl
listed_high [] o (suc n) h k = absurd (omega arith)
listed_high (m ∷ ms) [] zero h k = absurd (omega arith)
listed_high (m ∷ ms) [] (suc n) h k = absurd (omega arith)
listed_high (m ∷ ms) (x ∷ xs) zero h k = absurd (omega arith)
listed_high (m ∷ ms) (x ∷ xs) (suc n) h k =
    listed-cons (λ d. at_least_none (pos (slice_index_or (m ∷ ms) d 0) +ℤ slice_index_or (x ∷ xs) d (pos 0))) n ∙ ap (λ zs. at_least_none (pos m +ℤ x) ∷ zs) (listed_high ms xs n (omega arith) (omega arith))

-- one side of margins
side_none : (side : Side) (dims : ℕ) → side_of side (no_margins dims) ≡ replicate dims 0
side_none Low dims = refl
side_none High dims = refl

side_widest : (side : Side) (a b : Margins) → side_of side (widest a b) ≡ greatest (side_of side a) (side_of side b)
side_widest Low a b = refl
side_widest High a b = refl

side_needed : (side : Side) (m : Margins) (o : List ℤ) (dims : ℕ) → length (side_of side m) ≡ dims → length o ≡ dims → listed (λ d. number_needed side (slice_index_or (side_of side m) d 0) (slice_index_or o d (pos 0))) dims ≡ side_of side (needed m o)
side_needed Low m o dims h k = listed_low m.low o dims h k
side_needed High m o dims h k = listed_high m.high o dims h k

-- the numbers are those of the margins that a formula's reads need, where the margins of what it reads are known
module _ (dims : ℕ) (made : List Margins) (b : ℕ → Margins) (test : ℕ → List ℤ → Bool)
    (good : (y : ℕ) (o : List ℤ) → test y o ≡ true → (slice_index_or made y (no_margins 0) ≡ b y) × ((side : Side) → length (side_of side (slice_index_or made y (no_margins 0))) ≡ dims) × (length o ≡ dims)) where
  joined : (side : Side) (f g : ℕ → ℕ) (x y : Margins) → listed f dims ≡ side_of side x → listed g dims ≡ side_of side y → listed (λ d. max (f d) (g d)) dims ≡ side_of side (widest x y)
  joined side f g x y h k =
      listed_greatest f g dims ∙ ap (λ xs. greatest xs (listed g dims)) h ∙ ap (λ ys. greatest (side_of side x) ys) k ∙ sym (side_widest side x y)

  side_numbers : (side : Side) (f : Formula) → every test f ≡ true → numbers_of made side dims f ≡ side_of side (formula_margins dims (λ y o. needed (b y) o) f)
  side_numbers side (number n) e = listed_alike 0 dims ∙ sym (side_none side dims)
  side_numbers side (read t o) e =
      let g = good t o e in
      side_needed side (slice_index_or made t (no_margins 0)) o dims (g.1 side) g.2 ∙ ap (λ m. side_of side (needed m o)) g.0
  side_numbers side (param p k) e = listed_alike 0 dims ∙ sym (side_none side dims)
  side_numbers side (unary op x) e = side_numbers side x e
  side_numbers side (binary op x y) e =
      let both = and_parts (every test x) (every test y) e in
      joined side (λ d. formula_number (number_at made side d) x) (λ d. formula_number (number_at made side d) y) (formula_margins dims (λ y o. needed (b y) o) x) (formula_margins dims (λ y o. needed (b y) o) y) (side_numbers side x both.0) (side_numbers side y both.1)
  side_numbers side (choice c x y) e =
      let both = and_parts (every test c && every test x) (every test y) e in
      let first = and_parts (every test c) (every test x) both.0 in
      joined side (λ d. formula_number (number_at made side d) c) (λ d. max (formula_number (number_at made side d) x) (formula_number (number_at made side d) y)) (formula_margins dims (λ y o. needed (b y) o) c) (widest (formula_margins dims (λ y o. needed (b y) o) x) (formula_margins dims (λ y o. needed (b y) o) y)) (side_numbers side c first.0)
      (joined side (λ d. formula_number (number_at made side d) x) (λ d. formula_number (number_at made side d) y) (formula_margins dims (λ y o. needed (b y) o) x) (formula_margins dims (λ y o. needed (b y) o) y) (side_numbers side x first.1) (side_numbers side y both.1))
  side_numbers side (cast t x) e = side_numbers side x e

  pub margins_are : (f : Formula) → every test f ≡ true → margins_made made dims f ≡ formula_margins dims (λ y o. needed (b y) o) f
  margins_are f e =
      let low : numbers_of made Low dims f ≡ (formula_margins dims (λ y o. needed (b y) o) f).low = side_numbers Low f e in
      let high : numbers_of made High dims f ≡ (formula_margins dims (λ y o. needed (b y) o) f).high = side_numbers High f e in
      λ i. record { low = low i; high = high i }

-- how great the numbers are
least_bound : (z : ℤ) → at_least_none z ≤ unsigned_abs z
least_bound (pos n) = omega arith
least_bound (negsuc n) = omega arith

number_bound : (side : Side) (m most : ℕ) (d : ℤ) → m ≤ most → unsigned_abs d ≤ most_offset → number_needed side m d ≤ most + most_offset
number_bound Low m most d h k =
    let b : unsigned_abs (pos m -ℤ d) ≤ most + most_offset = omega (arith, ints) in
    omega (arith, least_bound (pos m -ℤ d), b)
number_bound High m most d h k =
    let b : unsigned_abs (pos m +ℤ d) ≤ most + most_offset = omega (arith, ints) in
    omega (arith, least_bound (pos m +ℤ d), b)

formula_bound : (need : ℕ → List ℤ → ℕ) (test : ℕ → List ℤ → Bool) (most : ℕ) → ((y : ℕ) (o : List ℤ) → test y o ≡ true → need y o ≤ most) → (f : Formula) → every test f ≡ true → formula_number need f ≤ most
formula_bound need test most h (number n) e = omega arith
formula_bound need test most h (read t o) e = h t o e
formula_bound need test most h (param p k) e = omega arith
formula_bound need test most h (unary op x) e = formula_bound need test most h x e
formula_bound need test most h (binary op x y) e =
    let both = and_parts (every test x) (every test y) e in
    omega (arith, formula_bound need test most h x both.0, formula_bound need test most h y both.1)
formula_bound need test most h (choice c x y) e =
    let both = and_parts (every test c && every test x) (every test y) e in
    let first = and_parts (every test c) (every test x) both.0 in
    omega (arith, formula_bound need test most h c first.0, formula_bound need test most h x first.1, formula_bound need test most h y both.1)
formula_bound need test most h (cast t x) e = formula_bound need test most h x e

listed_bound : (f : ℕ → ℕ) (n most : ℕ) → ((d : ℕ) → f d ≤ most) → (d : ℕ) → slice_index_or (listed f n) d 0 ≤ most
listed_bound f n most h d =
    ⊎_elim (λ (l : d < n). omega (arith, get-listed f n d 0 l, h d)) (λ (l : n ≤ d). omega (arith, get-listed-past f n d 0 l)) (cases_lt d n)

-- the numbers that a formula's reads need are greater than those of what it reads by the greatest offset at most
pub numbers_bound : (made : List Margins) (most dims : ℕ) (test : ℕ → List ℤ → Bool) → ((side : Side) (y d : ℕ) → slice_index_or (side_of side (slice_index_or made y (no_margins 0))) d 0 ≤ most) → ((y d : ℕ) (o : List ℤ) → test y o ≡ true → unsigned_abs (slice_index_or o d (pos 0)) ≤ most_offset) → (f : Formula) → every test f ≡ true → (side : Side) (d : ℕ) → slice_index_or (numbers_of made side dims f) d 0 ≤ most + most_offset
numbers_bound made most dims test h near f e side d =
    listed_bound (λ k. formula_number (number_at made side k) f) dims (most + most_offset) (λ k. formula_bound (number_at made side k) test (most + most_offset) (λ y o t. number_bound side (slice_index_or (side_of side (slice_index_or made y (no_margins 0))) k 0) most (slice_index_or o k (pos 0)) (h side y k) (near y k o t)) f e) d
