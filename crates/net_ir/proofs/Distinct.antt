-- Lists of numbers in which no number stands twice.
use Rattle.std.proofs.Common.{◌≡◌, ◌<◌, ℕ, zero, suc, Bool, true, false, ◌&&◌, ◌||◌, cond, nat_eq, List, [], ◌∷◌, ◌++◌, length, take, get_or, filter, refl, sym, ap, ◌∙◌, subst, ⊎_elim, arith}
use Rattle.std.specs.List.{list_any, list_all}
use Rattle.std.proofs.lemmas.Bool.{cases_Bool, eqb-true, eqb-false, eq-eqb, ne_eqb, or_cases, or_left, or_right, or_from, or_parts, and_parts, and_from, both_ways, false≢true}

-- the list has the number
abbrev pub has : ℕ → List ℕ → Bool
has n ns = list_any (nat_eq n) ns

-- no number stands twice in the list
abbrev pub Distinct : List ℕ → Type 0
Distinct [] = Unit {0}
Distinct (x ∷ xs) = (has x xs ≡ false) × Distinct xs

pub has-append : (n : ℕ) (xs ys : List ℕ) → has n (xs ++ ys) ≡ (has n xs || has n ys)
has-append n [] ys = refl
has-append n (x ∷ xs) ys = ap (λ b. nat_eq n x || b) (has-append n xs ys) ∙ or_assoc (nat_eq n x) (has n xs) (has n ys)
  where
    or_assoc : (a b c : Bool) → (a || (b || c)) ≡ ((a || b) || c)
    or_assoc true b c = refl
    or_assoc false b c = refl

pub has-get_or : (xs : List ℕ) (i d : ℕ) → i < length xs → has (get_or xs i d) xs ≡ true
has-get_or [] i d h = absurd (omega arith)
has-get_or (x ∷ xs) zero d h = or_left (nat_eq x x) (has x xs) (eq-eqb x x refl)
has-get_or (x ∷ xs) (suc i) d h = or_right (nat_eq (get_or xs i d) x) (has (get_or xs i d) xs) (has-get_or xs i d (omega arith))

-- a number that the list has stands at a place in it
pub place_of : (n : ℕ) (xs : List ℕ) → has n xs ≡ true → (i : ℕ) × (i < length xs) × (get_or xs i 0 ≡ n)
place_of n [] h = absurd (false≢true h)
place_of n (x ∷ xs) h = ⊎_elim
    (λ e. let same : n ≡ x = eqb-true n x e in (0, omega arith, sym same))
    (λ e. let r = place_of n xs e in (suc r.0, omega (arith, r.1), r.2))
    (or_cases (nat_eq n x) (has n xs) h)

pub lacks-before : (xs : List ℕ) (i d : ℕ) → Distinct xs → i < length xs → has (get_or xs i d) (take i xs) ≡ false
lacks-before [] i d u h = absurd (omega arith)
lacks-before (x ∷ xs) zero d u h = refl
lacks-before (x ∷ xs) (suc i) d u h =
    let y : ℕ = get_or xs i d in
    or_from (nat_eq y x) (has y (take i xs))
    (ne_eqb y x (λ e. both_ways (has x xs) u.0 (subst (λ z. has z xs ≡ true) e (has-get_or xs i d (omega arith)))))
    (lacks-before xs i d u.1 (omega arith))

pub has-filter : (f : ℕ → Bool) (n : ℕ) (xs : List ℕ) → has n (filter f xs) ≡ (has n xs && f n)
has-filter f n [] = refl
has-filter f n (x ∷ xs) =
    ⊎_elim
    (λ keep. ap (λ b. has n (cond b (x ∷ filter f xs) (filter f xs))) keep ∙ ⊎_elim
    (λ e. let same : n ≡ x = eqb-true n x e in let kept : f n ≡ true = ap f same ∙ keep
    in shape (nat_eq n x) (has n xs) (f n) (has n (filter f xs)) (has-filter f n xs) kept)
    (λ e. ap (λ b. b || has n (filter f xs)) e ∙ has-filter f n xs ∙ ap (λ b. (b || has n xs) && f n) (sym e))
    (cases_Bool (nat_eq n x)))
    (λ skip. ap (λ b. has n (cond b (x ∷ filter f xs) (filter f xs))) skip ∙ ⊎_elim
    (λ e. let same : n ≡ x = eqb-true n x e in let lost : f n ≡ false = ap f same ∙ skip in has-filter f n xs ∙ none (has n xs) (f n) (nat_eq n x) lost)
    (λ e. has-filter f n xs ∙ ap (λ b. (b || has n xs) && f n) (sym e))
    (cases_Bool (nat_eq n x)))
    (cases_Bool (f x))
  where
    shape : (a b c d : Bool) → d ≡ (b && c) → c ≡ true → (a || d) ≡ ((a || b) && c)
    shape true b c d e k = sym k
    shape false b c d e k = e

    none : (b c a : Bool) → c ≡ false → (b && c) ≡ ((a || b) && c)
    none true c true e = refl
    none true c false e = refl
    none false c true e = sym e
    none false c false e = refl

pub Distinct-filter : (f : ℕ → Bool) (xs : List ℕ) → Distinct xs → Distinct (filter f xs)
Distinct-filter f [] u = tt
Distinct-filter f (x ∷ xs) u =
    ⊎_elim
    (λ keep. subst (λ b. Distinct (cond b (x ∷ filter f xs) (filter f xs))) (sym keep) (has-filter f x xs ∙ ap (λ b. b && f x) u.0, Distinct-filter f xs u.1))
    (λ skip. subst (λ b. Distinct (cond b (x ∷ filter f xs) (filter f xs))) (sym skip) (Distinct-filter f xs u.1))
    (cases_Bool (f x))

pub Distinct-push : (xs : List ℕ) (n : ℕ) → Distinct xs → has n xs ≡ false → Distinct (xs ++ n ∷ [])
Distinct-push [] n u h = (refl, tt)
Distinct-push (x ∷ xs) n u h =
    let p = or_parts (nat_eq n x) (has n xs) h in (
      has-append x xs (n ∷ []) ∙ or_from (has x xs) (nat_eq x n || false) u.0
          (or_from (nat_eq x n) false (ne_eqb x n (λ e. eqb-false n x p.0 (sym e))) refl),
      Distinct-push xs n u.1 p.1,
    )

-- a test of each number of a list
pub all_from_has : (p : ℕ → Bool) (xs : List ℕ) → ((n : ℕ) → has n xs ≡ true → p n ≡ true) → list_all p xs ≡ true
all_from_has p [] h = refl
all_from_has p (x ∷ xs) h =
    and_from (p x) (list_all p xs) (h x (or_left (nat_eq x x) (has x xs) (eq-eqb x x refl)))
    (all_from_has p xs (λ n e. h n (or_right (nat_eq n x) (has n xs) e)))

pub passes_at : (p : ℕ → Bool) (xs : List ℕ) (n : ℕ) → list_all p xs ≡ true → has n xs ≡ true → p n ≡ true
passes_at p [] n a h = absurd (false≢true h)
passes_at p (x ∷ xs) n a h =
    let parts = and_parts (p x) (list_all p xs) a in
    ⊎_elim (λ e. ap p (eqb-true n x e) ∙ parts.0) (λ e. passes_at p xs n parts.1 e) (or_cases (nat_eq n x) (has n xs) h)
