-- Going round a part of a region.
use Rattle.std.proofs.Common.{◌≡◌, ◌≢◌, ◌<◌, ◌≤◌, ◌+◌, ◌-◌, ◌%◌, ◌⊎◌, inl, inr, ℕ, zero, suc, ℤ, pos, cond, List, [], ◌∷◌, ◌++◌, length, get_or, set, refl, sym, ap, ap₂, ◌∙◌, ⊎_elim, arith, get_or-set_other}
use Rattle.std.proofs.lemmas.Bool.{cases_lt, cases_eq, lt-ltb, le-ltb, eq-eqb, ne_eqb}
use native.Mathlib.Nat.{mod-eq_of_lt, mod-eq-sub-mod}
use Rattle.ring_region.specs.machine.Parts.{next_place, place_on, items_from}

-- a place so many steps on, by cases: before the end, or once round
place_cases : (b e p s : ℕ) → ((p + s < e) × (place_on b e p s ≡ p + s)) ⊎ ((e ≤ p + s) × (place_on b e p s ≡ (p + s) - (e - b)))
place_cases b e p s =
    ⊎_elim
    (λ h. inl (h, ap (λ c. cond c (p + s) ((p + s) - (e - b))) (lt-ltb _ _ h)))
    (λ h. inr (h, ap (λ c. cond c (p + s) ((p + s) - (e - b))) (le-ltb _ _ h)))
    (cases_lt (p + s) e)

-- the next place by cases
next_cases : (b e p : ℕ) → ((p + 1 ≡ e) × (next_place b e p ≡ b)) ⊎ ((p + 1 ≢ e) × (next_place b e p ≡ p + 1))
next_cases b e p =
    ⊎_elim
    (λ h. inl (h, ap (λ c. cond c b (p + 1)) (eq-eqb _ _ h)))
    (λ h. inr (h, ap (λ c. cond c b (p + 1)) (ne_eqb _ _ h)))
    (cases_eq (p + 1) e)

module _ (b e p : ℕ) (lo : b ≤ p) (hi : p < e) where
  pub next_inside : (b ≤ next_place b e p) × (next_place b e p < e)
  next_inside = ⊎_elim (λ h. (omega arith, omega arith)) (λ h. (omega arith, omega arith)) (next_cases b e p)

  -- steps from the next place
  pub place_next : (s : ℕ) → suc s ≤ e - b → place_on b e (next_place b e p) s ≡ place_on b e p (suc s)
  place_next s few =
      let one = place_cases b e (next_place b e p) s in
      let other = place_cases b e p (suc s) in
      ⊎_elim
      (λ n. ⊎_elim (λ x. ⊎_elim (λ y. omega arith) (λ y. omega arith) other) (λ x. ⊎_elim (λ y. omega arith) (λ y. omega arith) other) one)
      (λ n. ⊎_elim (λ x. ⊎_elim (λ y. omega arith) (λ y. omega arith) other) (λ x. ⊎_elim (λ y. omega arith) (λ y. omega arith) other) one)
      (next_cases b e p)

  -- the next place after steps
  pub next_on : (s : ℕ) → s < e - b → next_place b e (place_on b e p s) ≡ place_on b e p (suc s)
  next_on s few =
      let one = place_cases b e p s in
      let other = place_cases b e p (suc s) in
      ⊎_elim
      (λ n. ⊎_elim (λ x. ⊎_elim (λ y. omega arith) (λ y. omega arith) other) (λ x. ⊎_elim (λ y. omega arith) (λ y. omega arith) other) one)
      (λ n. ⊎_elim (λ x. ⊎_elim (λ y. omega arith) (λ y. omega arith) other) (λ x. ⊎_elim (λ y. omega arith) (λ y. omega arith) other) one)
      (next_cases b e (place_on b e p s))

  pub place_inside : (s : ℕ) → s < e - b → (b ≤ place_on b e p s) × (place_on b e p s < e)
  place_inside s few = ⊎_elim (λ x. (omega arith, omega arith)) (λ x. (omega arith, omega arith)) (place_cases b e p s)

  -- no place comes twice in one round
  pub place_apart : (s t : ℕ) → s < t → t < e - b → place_on b e p s ≢ place_on b e p t
  place_apart s t less few same = ⊎_elim
      (λ x. ⊎_elim (λ y. omega arith) (λ y. omega arith) (place_cases b e p t))
      (λ x. ⊎_elim (λ y. omega arith) (λ y. omega arith) (place_cases b e p t))
      (place_cases b e p s)

  -- the same places, counted from the first
  pub next_within : next_place b e p - b ≡ next_place 0 (e - b) (p - b)
  next_within = ⊎_elim
      (λ x. ⊎_elim (λ y. omega arith) (λ y. omega arith) (next_cases 0 (e - b) (p - b)))
      (λ x. ⊎_elim (λ y. omega arith) (λ y. omega arith) (next_cases 0 (e - b) (p - b)))
      (next_cases b e p)

  pub place_within : (s : ℕ) → s ≤ e - b → place_on b e p s ≡ b + place_on 0 (e - b) (p - b) s
  place_within s few = ⊎_elim
      (λ x. ⊎_elim (λ y. omega arith) (λ y. omega arith) (place_cases 0 (e - b) (p - b) s))
      (λ x. ⊎_elim (λ y. omega arith) (λ y. omega arith) (place_cases 0 (e - b) (p - b) s))
      (place_cases b e p s)

  pub place_none : place_on b e p 0 ≡ p
  place_none = ⊎_elim (λ x. omega arith) (λ x. omega arith) (place_cases b e p 0)

-- places of a part by remainder
pub place_mod : (c f i : ℕ) → f < c → i ≤ c → place_on 0 c f i ≡ (f + i) % c
place_mod c f i below few = ⊎_elim
    (λ y. y.1 ∙ sym (mod-eq_of_lt y.0))
    (λ y. let within : (f + i) - c < c = omega (arith, y.0) in
    let same : (f + i) - (c - 0) ≡ (f + i) - c = omega arith in
    y.1 ∙ same ∙ sym (mod-eq_of_lt within) ∙ sym (mod-eq-sub-mod y.0))
    (place_cases 0 c f i)

pub next_mod : (c f : ℕ) → f < c → next_place 0 c f ≡ (f + 1) % c
next_mod c f below =
    ⊎_elim
    (λ x. ⊎_elim (λ y. omega arith) (λ y. omega arith) (place_cases 0 c f 1))
    (λ x. ⊎_elim (λ y. omega arith) (λ y. omega arith) (place_cases 0 c f 1))
    (next_cases 0 c f)
    ∙ place_mod c f 1 below (omega arith)

module _ (b e : ℕ) where
  pub length-items : (region : List ℤ) (p n : ℕ) → length (items_from region b e p n) ≡ n
  unfolding items_from
  length-items region p zero = refl
  length-items region p (suc n) = ap suc (length-items region (next_place b e p) n)

  -- an item of these
  pub get_or-items : (region : List ℤ) (p n i : ℕ) → b ≤ p → p < e → n ≤ e - b → i < n
      → get_or (items_from region b e p n) i (pos 0) ≡ get_or region (place_on b e p i) (pos 0)
  unfolding items_from
  get_or-items region p zero i lo hi few h = absurd (omega arith)
  get_or-items region p (suc n) zero lo hi few h = ap (λ w. get_or region w (pos 0)) (sym (place_none b e p lo hi))
  get_or-items region p (suc n) (suc i) lo hi few h =
      let next = next_inside b e p lo hi in
      get_or-items region (next_place b e p) n i next.0 next.1 (omega arith) (omega arith)
      ∙ ap (λ w. get_or region w (pos 0)) (place_next b e p lo hi i (omega arith))

  -- the last of the items
  pub items_more : (region : List ℤ) (p n : ℕ) → b ≤ p → p < e → n < e - b
      → items_from region b e p (suc n) ≡ items_from region b e p n ++ get_or region (place_on b e p n) (pos 0) ∷ []
  unfolding items_from
  items_more region p zero lo hi few = ap (λ w. get_or region w (pos 0) ∷ []) (sym (place_none b e p lo hi))
  items_more region p (suc n) lo hi few =
      let next = next_inside b e p lo hi in
      ap (λ xs. get_or region p (pos 0) ∷ xs) (items_more region (next_place b e p) n next.0 next.1 (omega arith))
      ∙ ap (λ w. get_or region p (pos 0) ∷ (items_from region b e (next_place b e p) n ++ get_or region w (pos 0) ∷ []))
      (place_next b e p lo hi n (omega arith))

  -- a write at another place keeps the items
  pub items_kept : (region : List ℤ) (w : ℕ) (v : ℤ) (p n : ℕ) → b ≤ p → p < e → n ≤ e - b
      → ((s : ℕ) → s < n → place_on b e p s ≢ w) → items_from (set region w v) b e p n ≡ items_from region b e p n
  unfolding items_from
  items_kept region w v p zero lo hi few apart = refl
  items_kept region w v p (suc n) lo hi few apart =
      let next = next_inside b e p lo hi in
      ap₂ ◌∷◌
      (get_or-set_other region w p v (pos 0) (λ same. apart 0 (omega arith) (place_none b e p lo hi ∙ same)))
      (items_kept region w v (next_place b e p) n next.0 next.1 (omega arith)
      (λ s h same. apart (suc s) (omega arith) (sym (place_next b e p lo hi s (omega arith)) ∙ same)))
