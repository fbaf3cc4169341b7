-- Lists in order, each value once: there is one for the values of a list, however it is made.
use Rattle.std.proofs.Common.{◌≡◌, ℕ, ◌+◌, Bool, true, false, ◌||◌, List, [], ◌∷◌, length, map, refl, sym, ◌∙◌, ap, arith, if◌then◌else◌}
use Rattle.std.specs.Cmp.{IsTotalOrder}
use Rattle.std.proofs.lemmas.Cmp.{alike_right, tied_itself}
use Rattle.std.specs.List.{AllByRecursion, list_any}
use Rattle.std.specs.List.Sorted.{IsStrictlySortedBy}
use Rattle.std.specs.declared.cmp.Ordering.{Ordering}
use Rattle.std.specs.declared.cmp.Ordering.TheVariants.{Less, Equal, Greater}
use Rattle.std.specs.Ordering.{eq_by_cmp, is_eq, ordering_reverse}
use Rattle.std.proofs.lemmas.Bool.{false≢true, true≢false}
use Rattle.time_stages.specs.Staged.{in_order, put_in}

module _ {X : Type 0} (R : X → X → Ordering) (o : IsTotalOrder R) where
  -- the value is in the list
  abbrev pub is_in : X → List X → Bool
  is_in x xs = list_any (eq_by_cmp R x) xs

  abbrev pub IsRising : List X → Type 0
  IsRising xs = IsStrictlySortedBy R xs

  -- all of these stand behind x
  abbrev pub Behind : X → List X → Type 0
  Behind x xs = AllByRecursion (λ y. R x y ≡ Less) xs

  pub rising_nil : IsRising []
  unfolding IsStrictlySortedBy
  rising_nil = tt

  pub rising_cons : (x : X) (xs : List X) → Behind x xs → IsRising xs → IsRising (x ∷ xs)
  unfolding IsStrictlySortedBy
  rising_cons x xs h k = (h, k)

  pub rising_parts : (x : X) (xs : List X) → IsRising (x ∷ xs) → Behind x xs × IsRising xs
  unfolding IsStrictlySortedBy
  rising_parts x xs h = h

  behind_further : (x y : X) (ys : List X) → R x y ≡ Less → Behind y ys → Behind x ys
  behind_further x y [] e h = tt
  behind_further x y (z ∷ zs) e h = (o.trans x y z e h.0, behind_further x y zs e h.1)

  turned : (x y : X) → R x y ≡ Greater → R y x ≡ Less
  turned x y e = o.antisymm y x ∙ ap ordering_reverse e

  -- what is equal to x isn't among what stands behind it
  not_behind : (q x : X) (xs : List X) → R q x ≡ Equal → Behind x xs → is_in q xs ≡ false
  not_behind q x [] e h = refl
  not_behind q x (z ∷ zs) e h =
      ap (λ r. is_eq r || is_in q zs) (o.congr q x z e ∙ h.0) ∙ not_behind q x zs e h.1

  not_in_front : (x y : X) (ys : List X) → R x y ≡ Less → Behind y ys → is_in x ys ≡ false
  not_in_front x y ys e h = not_behind x x ys (tied_itself o x) (behind_further x y ys e h)

  is_itself : (x : X) (xs : List X) → is_in x (x ∷ xs) ≡ true
  is_itself x xs = ap (λ r. is_eq r || is_in x xs) (tied_itself o x)

  equal_from : (r : Ordering) → is_eq r ≡ true → r ≡ Equal
  equal_from Less e = absurd (false≢true e)
  equal_from Equal e = refl
  equal_from Greater e = absurd (false≢true e)

  -- a value put in
  put_by : (r : Ordering) (x y : X) (ys zs : List X) (P : List X → Type 0) → R x y ≡ r → (r ≡ Less → P (x ∷ y ∷ ys)) → (r ≡ Equal → P (y ∷ ys)) → (r ≡ Greater → P (y ∷ zs))
      → P (elim r [ Less ↦ x ∷ y ∷ ys | Equal ↦ y ∷ ys | Greater ↦ y ∷ zs ])
  put_by Less x y ys zs P e a b c = a refl
  put_by Equal x y ys zs P e a b c = b refl
  put_by Greater x y ys zs P e a b c = c refl

  put_behind : (x y : X) (ys : List X) → R y x ≡ Less → Behind y ys → Behind y (put_in R x ys)
  put_behind x y [] e h = (e, tt)
  put_behind x y (z ∷ zs) e h =
      put_by (R x z) x z zs (put_in R x zs) (Behind y) refl (λ r. (e, h)) (λ r. h) (λ r. (h.0, put_behind x y zs e h.1))

  put_rising : (x : X) (ys : List X) → IsRising ys → IsRising (put_in R x ys)
  put_rising x [] h = rising_cons x [] tt rising_nil
  put_rising x (y ∷ ys) h =
      let parts = rising_parts y ys h in
      put_by (R x y) x y ys (put_in R x ys) IsRising refl
      (λ r. rising_cons x (y ∷ ys) (r, behind_further x y ys r parts.0) h)
      (λ r. h)
      (λ r. rising_cons y (put_in R x ys) (put_behind x y ys (turned x y r) parts.0) (put_rising x ys parts.1))

  or_turned : (a b c : Bool) → (b || (a || c)) ≡ (a || (b || c))
  or_turned true true c = refl
  or_turned true false c = refl
  or_turned false true c = refl
  or_turned false false c = refl

  or_both : (a b c : Bool) → (a ≡ b) → (b || c) ≡ (a || (b || c))
  or_both true true c e = refl
  or_both true false c e = absurd (false≢true (sym e))
  or_both false b c e = refl

  put_in_is : (q x : X) (ys : List X) → is_in q (put_in R x ys) ≡ (eq_by_cmp R q x || is_in q ys)
  put_in_is q x [] = refl
  put_in_is q x (y ∷ ys) =
      put_by (R x y) x y ys (put_in R x ys) (λ zs. is_in q zs ≡ (eq_by_cmp R q x || is_in q (y ∷ ys))) refl
      (λ r. refl)
      (λ r. or_both (eq_by_cmp R q x) (eq_by_cmp R q y) (is_in q ys) (ap is_eq (alike_right o x y q r)))
      (λ r. ap (λ b. eq_by_cmp R q y || b) (put_in_is q x ys) ∙ or_turned (eq_by_cmp R q x) (eq_by_cmp R q y) (is_in q ys))

  put_length : (x : X) (ys : List X) → IsRising ys → length (put_in R x ys) ≡ (if is_in x ys then 0 else 1) + length ys
  put_length x [] h = refl
  put_length x (y ∷ ys) h =
      let parts = rising_parts y ys h in
      put_by (R x y) x y ys (put_in R x ys) (λ zs. length zs ≡ (if is_in x (y ∷ ys) then 0 else 1) + length (y ∷ ys)) refl
      (λ r. let none : is_in x (y ∷ ys) ≡ false = ap (λ k. is_eq k || is_in x ys) r ∙ not_in_front x y ys r parts.0 in
      let one : ◌≡◌ {A = ℕ} (if is_in x (y ∷ ys) then 0 else 1) 1 = ap (λ b. if b then 0 else 1) none in
      omega arith)
      (λ r. let some : is_in x (y ∷ ys) ≡ true = ap (λ k. is_eq k || is_in x ys) r in
      let zero : ◌≡◌ {A = ℕ} (if is_in x (y ∷ ys) then 0 else 1) 0 = ap (λ b. if b then 0 else 1) some in
      omega arith)
      (λ r. let same : is_in x (y ∷ ys) ≡ is_in x ys = ap (λ k. is_eq k || is_in x ys) r in
      let bit : ◌≡◌ {A = ℕ} (if is_in x (y ∷ ys) then 0 else 1) (if is_in x ys then 0 else 1) = ap (λ b. if b then 0 else 1) same in
      omega (arith, put_length x ys parts.1))

  pub order_rising : (xs : List X) → IsRising (in_order R xs)
  order_rising [] = rising_nil
  order_rising (x ∷ xs) = put_rising x (in_order R xs) (order_rising xs)

  pub order_in : (q : X) (xs : List X) → is_in q (in_order R xs) ≡ is_in q xs
  order_in q [] = refl
  order_in q (x ∷ xs) = put_in_is q x (in_order R xs) ∙ ap (λ b. eq_by_cmp R q x || b) (order_in q xs)

  -- as many as there are different values
  abbrev pub distinct : List X → ℕ
  distinct [] = 0
  distinct (x ∷ xs) = (if is_in x xs then 0 else 1) + distinct xs

  pub order_length : (xs : List X) → length (in_order R xs) ≡ distinct xs
  order_length [] = refl
  order_length (x ∷ xs) =
      put_length x (in_order R xs) (order_rising xs)
      ∙ ap (λ b. (if b then 0 else 1) + length (in_order R xs)) (order_in x xs)
      ∙ ap (λ n. (if is_in x xs then 0 else 1) + n) (order_length xs)

  module _ (exact : (x y : X) → R x y ≡ Equal → x ≡ y) where
    tail_by : (a b : Bool) (c d : Bool) → a ≡ b → (a ≡ true → c ≡ false) → (a ≡ true → d ≡ false) → (a || c) ≡ (b || d) → c ≡ d
    tail_by true b c d e f g h = f refl ∙ sym (g refl)
    tail_by false true c d e f g h = absurd (false≢true e)
    tail_by false false c d e f g h = h

    one_by : (r : Ordering) (x y : X) (xs ys : List X) → R x y ≡ r → IsRising (x ∷ xs) → IsRising (y ∷ ys) → ((q : X) → is_in q (x ∷ xs) ≡ is_in q (y ∷ ys))
        → (((q : X) → is_in q xs ≡ is_in q ys) → xs ≡ ys) → x ∷ xs ≡ y ∷ ys
    one_by Less x y xs ys e h k same rest =
        let none : is_in x (y ∷ ys) ≡ false = ap (λ c. is_eq c || is_in x ys) e ∙ not_in_front x y ys e (rising_parts y ys k).0 in
        absurd (true≢false (sym (is_itself x xs) ∙ same x ∙ none))
    one_by Equal x y xs ys e h k same rest =
        let tails = rest (λ q. tail_by (eq_by_cmp R q x) (eq_by_cmp R q y) (is_in q xs) (is_in q ys) (ap is_eq (alike_right o x y q e))
        (λ t. not_behind q x xs (equal_from (R q x) t) (rising_parts x xs h).0)
        (λ t. not_behind q y ys (sym (alike_right o x y q e) ∙ equal_from (R q x) t) (rising_parts y ys k).0) (same q)) in
        ap (λ z. z ∷ xs) (exact x y e) ∙ ap (λ zs. y ∷ zs) tails
    one_by Greater x y xs ys e h k same rest =
        let f = turned x y e in
        let none : is_in y (x ∷ xs) ≡ false = ap (λ c. is_eq c || is_in y xs) f ∙ not_in_front y x xs f (rising_parts x xs h).0 in
        absurd (true≢false (sym (is_itself y ys) ∙ sym (same y) ∙ none))

    -- two lists in order that have the same values are one
    pub rising_one : (xs ys : List X) → IsRising xs → IsRising ys → ((q : X) → is_in q xs ≡ is_in q ys) → xs ≡ ys
    rising_one [] [] h k same = refl
    rising_one [] (y ∷ ys) h k same = absurd (false≢true (same y ∙ is_itself y ys))
    rising_one (x ∷ xs) [] h k same = absurd (false≢true (sym (same x) ∙ is_itself x xs))
    rising_one (x ∷ xs) (y ∷ ys) h k same =
        one_by (R x y) x y xs ys refl h k same (λ tails. rising_one xs ys (rising_parts x xs h).1 (rising_parts y ys k).1 tails)

mapped_by : {X Y : Type 0} (f : X → Y) (r : Ordering) (x y : X) (ys zs : List X) (us : List Y) → map f zs ≡ us → map f (elim r [ Less ↦ x ∷ y ∷ ys | Equal ↦ y ∷ ys | Greater ↦ y ∷ zs ])
    ≡ elim r [ Less ↦ f x ∷ f y ∷ map f ys | Equal ↦ f y ∷ map f ys | Greater ↦ f y ∷ us ]
mapped_by f Less x y ys zs us e = refl
mapped_by f Equal x y ys zs us e = refl
mapped_by f Greater x y ys zs us e = ap (λ ws. f y ∷ ws) e

-- in order through a function that keeps the order
pub put_mapped : {X Y : Type 0} (f : X → Y) (R : X → X → Ordering) (S : Y → Y → Ordering) → ((x y : X) → R x y ≡ S (f x) (f y)) → (x : X) (ys : List X) → map f (put_in R x ys) ≡ put_in S (f x) (map f ys)
put_mapped f R S e x [] = refl
put_mapped f R S e x (y ∷ ys) =
    mapped_by f (R x y) x y ys (put_in R x ys) (put_in S (f x) (map f ys)) (put_mapped f R S e x ys)
    ∙ ap (λ r. elim r [ Less ↦ f x ∷ f y ∷ map f ys | Equal ↦ f y ∷ map f ys | Greater ↦ f y ∷ put_in S (f x) (map f ys) ]) (e x y)

pub order_mapped : {X Y : Type 0} (f : X → Y) (R : X → X → Ordering) (S : Y → Y → Ordering) → ((x y : X) → R x y ≡ S (f x) (f y)) → (xs : List X) → map f (in_order R xs) ≡ in_order S (map f xs)
order_mapped f R S e [] = refl
order_mapped f R S e (x ∷ xs) =
    put_mapped f R S e x (in_order R xs) ∙ ap (put_in S (f x)) (order_mapped f R S e xs)
