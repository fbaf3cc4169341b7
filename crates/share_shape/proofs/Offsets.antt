-- An offset less another, component by component.
use Rattle.std.proofs.Common.{◌≡◌, ℕ, zero, suc, ◌+◌, ◌<◌, List, [], ◌∷◌, ◌++◌, length, map, take, drop, Bool, true, false, ◌&&◌, ℤ, pos, ◌+ℤ◌, slice_index_or, refl, sym, ◌∙◌, ap, arith, length-append}
use Rattle.std.specs.Prelude.{neg_ℤ, ◌-ℤ◌}
use Rattle.std.proofs.lemmas.Bool.{and_right}
use Rattle.std.proofs.lemmas.Int.{ints}
use Rattle.std.proofs.Math.Seq.{drop-length}
use Rattle.std.specs.Ordering.{int_eq}
use Rattle.soda_eval.specs.Points.{moved}
use Rattle.share_shape.specs.Shifts.{is_same_offset}

from_zero : (x : ℤ) → neg_ℤ x ≡ pos 0 -ℤ x
from_zero x = omega (arith, ints)

less : (d x : ℤ) → d +ℤ neg_ℤ x ≡ d -ℤ x
less d x = omega (arith, ints)

-- nothing is left where the vector ends
alone : (ds : List ℤ) (x : ℤ) → x ∷ moved ds [] ≡ x ∷ []
alone [] x = refl
alone (d ∷ ds) x = refl

-- nothing is left behind an empty vector
pub empty : (ds : List ℤ) → moved ds [] ≡ []
empty [] = refl
empty (d ∷ ds) = refl

-- one component more
pub moved_more : (o f : List ℤ) (i : ℕ) → i < length f → moved o (map neg_ℤ (take (suc i) f)) ≡ moved o (map neg_ℤ (take i f)) ++ (slice_index_or o i (pos 0) -ℤ slice_index_or f i (pos 0)) ∷ []
moved_more o [] i h = absurd (omega arith)
moved_more [] (x ∷ xs) zero h = ap (λ y. y ∷ []) (from_zero x)
moved_more [] (x ∷ xs) (suc i) h = ap (λ ys. neg_ℤ x ∷ ys) (moved_more [] xs i (omega arith))
moved_more (d ∷ ds) (x ∷ xs) zero h = alone ds (d +ℤ neg_ℤ x) ∙ ap (λ y. y ∷ []) (less d x)
moved_more (d ∷ ds) (x ∷ xs) (suc i) h = ap (λ ys. (d +ℤ neg_ℤ x) ∷ ys) (moved_more ds xs i (omega arith))

-- the offsets from a component on
abbrev pub same_from : (a first b other : List ℤ) (i : ℕ) → Bool
same_from a first b other i =
    is_same_offset (moved (drop i a) (map neg_ℤ (drop i first))) (moved (drop i b) (map neg_ℤ (drop i other)))

-- offsets of different lengths are not the same
pub other_length : (a first b other : List ℤ) → (length first ≡ length other → ⊥) → is_same_offset (moved a (map neg_ℤ first)) (moved b (map neg_ℤ other)) ≡ false
other_length a [] b [] h = absurd (h refl)
other_length [] [] [] (y ∷ ys) h = refl
other_length [] [] (e ∷ es) (y ∷ ys) h = refl
other_length (d ∷ ds) [] [] (y ∷ ys) h = refl
other_length (d ∷ ds) [] (e ∷ es) (y ∷ ys) h = refl
other_length [] (x ∷ xs) [] [] h = refl
other_length [] (x ∷ xs) (e ∷ es) [] h = refl
other_length (d ∷ ds) (x ∷ xs) [] [] h = refl
other_length (d ∷ ds) (x ∷ xs) (e ∷ es) [] h = refl
other_length [] (x ∷ xs) [] (y ∷ ys) h = and_right _ _ (other_length [] xs [] ys (λ e. h (omega arith)))
other_length [] (x ∷ xs) (e ∷ es) (y ∷ ys) h = and_right _ _ (other_length [] xs es ys (λ k. h (omega arith)))
other_length (d ∷ ds) (x ∷ xs) [] (y ∷ ys) h = and_right _ _ (other_length ds xs [] ys (λ k. h (omega arith)))
other_length (d ∷ ds) (x ∷ xs) (e ∷ es) (y ∷ ys) h = and_right _ _ (other_length ds xs es ys (λ k. h (omega arith)))

zero_neg : (x : ℤ) → neg_ℤ x ≡ pos 0 +ℤ neg_ℤ x
zero_neg x = omega (arith, ints)

-- one component, and the others
pub same_step : (a first b other : List ℤ) (i : ℕ) → i < length first → length first ≡ length other → same_from a first b other i ≡ (int_eq (slice_index_or a i (pos 0) +ℤ neg_ℤ (slice_index_or first i (pos 0))) (slice_index_or b i (pos 0) +ℤ neg_ℤ (slice_index_or other i (pos 0))) && same_from a first b other (suc i))
same_step a [] b other i h l = absurd (omega arith)
same_step a (x ∷ xs) b [] i h l = absurd (omega arith)
same_step [] (x ∷ xs) [] (y ∷ ys) zero h l =
    ap (λ u. int_eq u (neg_ℤ y) && is_same_offset (map neg_ℤ xs) (map neg_ℤ ys)) (zero_neg x) ∙ ap (λ u. int_eq (pos 0 +ℤ neg_ℤ x) u && is_same_offset (map neg_ℤ xs) (map neg_ℤ ys)) (zero_neg y)
same_step [] (x ∷ xs) (e ∷ es) (y ∷ ys) zero h l =
    ap (λ u. int_eq u (e +ℤ neg_ℤ y) && is_same_offset (map neg_ℤ xs) (moved es (map neg_ℤ ys))) (zero_neg x)
same_step (d ∷ ds) (x ∷ xs) [] (y ∷ ys) zero h l =
    ap (λ u. int_eq (d +ℤ neg_ℤ x) u && is_same_offset (moved ds (map neg_ℤ xs)) (map neg_ℤ ys)) (zero_neg y)
same_step (d ∷ ds) (x ∷ xs) (e ∷ es) (y ∷ ys) zero h l = refl
same_step [] (x ∷ xs) [] (y ∷ ys) (suc zero) h l = same_step [] xs [] ys zero (omega arith) (omega arith)
same_step [] (x ∷ xs) [] (y ∷ ys) (suc (suc i)) h l = same_step [] xs [] ys (suc i) (omega arith) (omega arith)
same_step [] (x ∷ xs) (e ∷ es) (y ∷ ys) (suc zero) h l = same_step [] xs es ys zero (omega arith) (omega arith)
same_step [] (x ∷ xs) (e ∷ es) (y ∷ ys) (suc (suc i)) h l = same_step [] xs es ys (suc i) (omega arith) (omega arith)
same_step (d ∷ ds) (x ∷ xs) [] (y ∷ ys) (suc zero) h l = same_step ds xs [] ys zero (omega arith) (omega arith)
same_step (d ∷ ds) (x ∷ xs) [] (y ∷ ys) (suc (suc i)) h l = same_step ds xs [] ys (suc i) (omega arith) (omega arith)
same_step (d ∷ ds) (x ∷ xs) (e ∷ es) (y ∷ ys) (suc i) h l = same_step ds xs es ys i (omega arith) (omega arith)

-- one component more of a difference
pub moved_next : (o f made more : List ℤ) (i : ℕ) (d : ℤ) → made ≡ moved o (map neg_ℤ (take i f)) → length made ≡ i → i < length f → d ≡ slice_index_or o i (pos 0) -ℤ slice_index_or f i (pos 0) → more ≡ made ++ d ∷ [] → (more ≡ moved o (map neg_ℤ (take (i + 1) f))) × (length more ≡ i + 1)
moved_next o f made more i d a b h e g =
    let n : suc i ≡ i + 1 = omega arith in
    (g ∙ ap (λ xs. xs ++ d ∷ []) a ∙ ap (λ x. moved o (map neg_ℤ (take i f)) ++ x ∷ []) e ∙ sym (moved_more o f i h) ∙ ap (λ k. moved o (map neg_ℤ (take k f))) n, ap length g ∙ length-append made (d ∷ []) ∙ omega arith)

module _ (a first b other : List ℤ) (i : ℕ) (l : length first ≡ length other) where
  next_same : (i < length first) → (x y : ℤ) (e : Bool) → x ≡ slice_index_or a i (pos 0) +ℤ neg_ℤ (slice_index_or first i (pos 0)) → y ≡ slice_index_or b i (pos 0) +ℤ neg_ℤ (slice_index_or other i (pos 0)) → e ≡ int_eq x y → same_from a first b other i ≡ (e && same_from a first b other (suc i))
  next_same h x y e p q r =
      same_step a first b other i h l ∙ sym (ap (λ c. c && same_from a first b other (suc i)) (r ∙ ap (λ u. int_eq u y) p ∙ ap (int_eq (slice_index_or a i (pos 0) +ℤ neg_ℤ (slice_index_or first i (pos 0)))) q))

  pub fails_here : same_from a first b other i ≡ same_from a first b other 0 → i < length first → (x y : ℤ) (e : Bool) → x ≡ slice_index_or a i (pos 0) +ℤ neg_ℤ (slice_index_or first i (pos 0)) → y ≡ slice_index_or b i (pos 0) +ℤ neg_ℤ (slice_index_or other i (pos 0)) → e ≡ int_eq x y → e ≡ false → false ≡ same_from a first b other 0
  fails_here inv h x y e p q r f = sym (ap (λ c. c && same_from a first b other (suc i)) f) ∙ sym (next_same h x y e p q r) ∙ inv

  pub passes_here : same_from a first b other i ≡ same_from a first b other 0 → i < length first → (x y : ℤ) (e : Bool) → x ≡ slice_index_or a i (pos 0) +ℤ neg_ℤ (slice_index_or first i (pos 0)) → y ≡ slice_index_or b i (pos 0) +ℤ neg_ℤ (slice_index_or other i (pos 0)) → e ≡ int_eq x y → e ≡ true → same_from a first b other (i + 1) ≡ same_from a first b other 0
  passes_here inv h x y e p q r f =
      let n : i + 1 ≡ suc i = omega arith in
      ap (same_from a first b other) n ∙ sym (ap (λ c. c && same_from a first b other (suc i)) f) ∙ sym (next_same h x y e p q r) ∙ inv

-- behind the last component nothing differs
pub all_same : (a first b other : List ℤ) → length first ≡ length other → same_from a first b other (length first) ≡ same_from a first b other 0 → true ≡ same_from a first b other 0
all_same a first b other l inv =
    let f : drop (length first) first ≡ [] = drop-length first in
    let g : drop (length first) other ≡ [] = ap (λ n. drop n other) l ∙ drop-length other in
    sym (ap (λ xs. is_same_offset (moved (drop (length first) a) (map neg_ℤ xs)) (moved (drop (length first) b) (map neg_ℤ (drop (length first) other)))) f
    ∙ ap (λ xs. is_same_offset (moved (drop (length first) a) []) (moved (drop (length first) b) (map neg_ℤ xs))) g
    ∙ ap (λ xs. is_same_offset xs (moved (drop (length first) b) [])) (empty (drop (length first) a))
    ∙ ap (λ xs. is_same_offset [] xs) (empty (drop (length first) b))) ∙ inv
