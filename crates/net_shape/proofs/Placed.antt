-- Lists whose elements stand at their places.
use Rattle.std.proofs.Common.{◌≡◌, ℕ, zero, suc, ◌+◌, ◌<◌, List, [], ◌∷◌, ◌++◌, length, get_or, refl, sym, ◌∙◌, ap, subst, arith, ⊎_elim}
use Rattle.std.proofs.lemmas.Bool.{cases_lt}
use Rattle.std.proofs.lemmas.List.{length-append, get_or_append_left, get_or-append-add}
use Rattle.delay_net.specs.Sums.{sum_below}
use Rattle.net_shape.specs.Lists.{joined}

pub length_joined : {A : Type 0} (f : ℕ → List A) (n : ℕ) → length (joined f n) ≡ sum_below n (λ i. length (f i))
unfolding joined sum_below
length_joined f zero = refl
length_joined f (suc n) = length-append (joined f n) (f n) ∙ ap (λ k. k + length (f n)) (length_joined f n)

-- x stands at k
pub record At {A : Type 0} (xs : List A) (k : ℕ) (x : A) : Type 0 where
  pub within : k < length xs
  pub is : (d : A) → get_or xs k d ≡ x

pub at_first : {A : Type 0} (x : A) (xs : List A) → At (x ∷ xs) 0 x
at_first x xs = record { within = omega arith; is = λ d. refl }

pub at_next : {A : Type 0} (y : A) (xs : List A) (k : ℕ) (x : A) → At xs k x → At (y ∷ xs) (suc k) x
at_next y xs k x a = record { within = omega (arith, a.within); is = λ d. a.is d }

pub at_left : {A : Type 0} (xs ys : List A) (k : ℕ) (x : A) → At xs k x → At (xs ++ ys) k x
at_left xs ys k x a = record {
  within = omega (arith, length-append xs ys, a.within);
  is = λ d. get_or_append_left xs ys d k a.within ∙ a.is d;
}

pub at_right : {A : Type 0} (xs ys : List A) (k : ℕ) (x : A) → At ys k x → At (xs ++ ys) (length xs + k) x
at_right xs ys k x a = record {
  within = omega (arith, length-append xs ys, a.within);
  is = λ d. get_or-append-add xs ys k d ∙ a.is d;
}

pub at_place : {A : Type 0} (xs : List A) (k n : ℕ) (x : A) → k ≡ n → At xs k x → At xs n x
at_place xs k n x e a = subst (λ (m : ℕ). At xs m x) e a

pub at_joined : {A : Type 0} (f : ℕ → List A) (n i k : ℕ) (x : A) → i < n → At (f i) k x → At (joined f n) (sum_below i (λ j. length (f j)) + k) x
unfolding joined
at_joined f zero i k x h a = absurd (omega arith)
at_joined f (suc n) i k x h a =
    ⊎_elim
    (λ lt. at_left (joined f n) (f n) _ x (at_joined f n i k x lt a))
    (λ ge. let e : i ≡ n = omega arith in
    at_place _ _ _ x (ap (λ m. m + k) (length_joined f n) ∙ ap (λ m. sum_below m (λ j. length (f j)) + k) (sym e))
    (at_right (joined f n) (f n) k x (subst (λ m. At (f m) k x) e a)))
    (cases_lt i n)

-- the same number at each place
pub sum_below_ones : (n : ℕ) → sum_below n (λ i. 1) ≡ n
unfolding sum_below
sum_below_ones zero = refl
sum_below_ones (suc n) = omega (arith, sum_below_ones n)

module _ {A : Type 0} (P : A → Type 0) (g : A → ℕ) where
  -- each element is good, and g gives the place where it stands, where the first stands at b
  abbrev pub Counted : ℕ → List A → Type 0
  Counted b [] = Unit {0}
  Counted b (x ∷ xs) = (P x × (g x ≡ b)) × Counted (suc b) xs

  pub counted_from : (b c : ℕ) (xs : List A) → b ≡ c → Counted b xs → Counted c xs
  counted_from b c xs e h = subst (λ (n : ℕ). Counted n xs) e h

  pub counted-append : (b : ℕ) (xs ys : List A) → Counted b xs → Counted (b + length xs) ys → Counted b (xs ++ ys)
  counted-append b [] ys h k = counted_from (b + 0) b ys (omega arith) k
  counted-append b (x ∷ xs) ys h k =
      (h.0, counted-append (suc b) xs ys h.1 (counted_from (b + suc (length xs)) (suc b + length xs) ys (omega arith) k))

  pub counted-joined : (f : ℕ → List A) (n b : ℕ) → ((i : ℕ) → i < n → Counted (b + sum_below i (λ j. length (f j))) (f i)) → Counted b (joined f n)
  unfolding joined
  counted-joined f zero b h = tt
  counted-joined f (suc n) b h =
      counted-append b (joined f n) (f n) (counted-joined f n b (λ i lt. h i (omega arith)))
      (counted_from _ _ (f n) (ap (λ m. b + m) (sym (length_joined f n))) (h n (omega arith)))

  pub counted_one : (b : ℕ) (x : A) → P x → g x ≡ b → Counted b (x ∷ [])
  counted_one b x h e = ((h, e), tt)

  pub counted_at : (b : ℕ) (xs : List A) (k : ℕ) (d : A) → Counted b xs → k < length xs → P (get_or xs k d) × (g (get_or xs k d) ≡ b + k)
  counted_at b [] k d h lt = absurd (omega arith)
  counted_at b (x ∷ xs) zero d h lt = (h.0.0, omega (arith, h.0.1))
  counted_at b (x ∷ xs) (suc k) d h lt =
      let r = counted_at (suc b) xs k d h.1 (omega arith) in (r.0, omega (arith, r.1))
