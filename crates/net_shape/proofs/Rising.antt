-- Lists of numbers that rise: what a filter keeps of them, how many are above one, and their gaps.
use Rattle.std.proofs.Common.{◌≡◌, ℕ, suc, ◌+◌, ◌-◌, ◌<◌, ◌≤◌, Bool, true, false, cond, nat_lt, List, [], ◌∷◌, ◌++◌, length, map, reverse, refl, sym, ◌∙◌, ap, subst, arith, ⊎_elim}
use Rattle.std.specs.List.{All, AllByRecursion, Contains, filter}
use Rattle.std.proofs.lemmas.Bool.{cases_lt, cond_both, eq-eqb, le-ltb, lt-ltb, ltb-true, ne_eqb}
use Rattle.std.proofs.lemmas.List.{length-map, length-reverse, map-append, reverse-append}
use Rattle.std.proofs.lemmas.List.Elements.{All-contains, All-contains_itself, All-filter, filter_passes, recursion_from_All, All-from_recursion}
use Rattle.reuse_chain.proofs.CallerLemmas.{cases, filtered, head, none, Rises}
use Rattle.net_shape.specs.Modules.{gap_after, gap_of}
use Rattle.net_shape.specs.Queues.{taps_above}
use Rattle.net_shape.specs.machine.Places.{count_above}
use Rattle.net_shape.proofs.Placed.{At, Counted, at_first, at_left, at_place, at_right, counted-append, counted_one}

-- what holds of each element
pub each_in : {A : Type 0} (P : A → Type 0) (xs : List A) → ((x : A) → Contains xs x → P x) → AllByRecursion P xs
each_in P xs h = recursion_from_All P xs (λ k d lt. h _ (All-contains_itself xs k d lt))

pub in_each : {A : Type 0} (P : A → Type 0) (xs : List A) (x : A) → AllByRecursion P xs → Contains xs x → P x
in_each P xs x h c = All-contains P xs x (All-from_recursion P xs h) c

pub each_of_two : {A : Type 0} (P Q R : A → Type 0) → ((x : A) → P x → Q x → R x) → (xs : List A) → AllByRecursion P xs → AllByRecursion Q xs → AllByRecursion R xs
each_of_two P Q R f [] h k = tt
each_of_two P Q R f (x ∷ xs) h k = (f x h.0 k.0, each_of_two P Q R f xs h.1 k.1)

pub each_of : {A : Type 0} (P Q : A → Type 0) → ((x : A) → P x → Q x) → (xs : List A) → AllByRecursion P xs → AllByRecursion Q xs
each_of P Q f xs h = each_of_two P P Q (λ x p _. f x p) xs h h

-- filters
pub kept_from : {A : Type 0} (p : A → Bool) (xs : List A) (x : A) → Contains (filter p xs) x → Contains xs x × (p x ≡ true)
kept_from p xs x h = (
  All-contains (Contains xs) (filter p xs) x (All-filter p (Contains xs) xs (All-contains_itself xs)) h,
  All-contains (λ y. p y ≡ true) (filter p xs) x (filter_passes p xs) h,
)

pub filter_same : {A : Type 0} (p q : A → Bool) (xs : List A) → AllByRecursion (λ x. p x ≡ q x) xs → filter p xs ≡ filter q xs
filter_same p q [] h = refl
filter_same p q (x ∷ xs) h =
    ap (λ b. cond b (x ∷ filter p xs) (filter p xs)) h.0 ∙ ap (λ ys. cond (q x) (x ∷ ys) ys) (filter_same p q xs h.1)

pub keep_all : {A : Type 0} (p : A → Bool) (xs : List A) → AllByRecursion (λ x. p x ≡ true) xs → filter p xs ≡ xs
keep_all p [] h = refl
keep_all p (x ∷ xs) h = ap (λ b. cond b (x ∷ filter p xs) (filter p xs)) h.0 ∙ ap (λ ys. x ∷ ys) (keep_all p xs h.1)

pub keep_none : {A : Type 0} (p : A → Bool) (xs : List A) → AllByRecursion (λ x. p x ≡ false) xs → filter p xs ≡ []
keep_none p [] h = refl
keep_none p (x ∷ xs) h = ap (λ b. cond b (x ∷ filter p xs) (filter p xs)) h.0 ∙ keep_none p xs h.1

pub rises-filter : (p : ℕ → Bool) (xs : List ℕ) → Rises xs → Rises (filter p xs)
rises-filter p [] h = tt
rises-filter p (x ∷ xs) h =
    cond_both (p x) (x ∷ filter p xs) (filter p xs) Rises (λ _. (All-filter p (λ y. x < y) xs h.0, rises-filter p xs h.1)) (λ _. rises-filter p xs h.1)

-- how many are above one
pub above_later : (x : ℕ) (xs : List ℕ) (t : ℕ) → x ≤ t → count_above t (x ∷ xs) ≡ count_above t xs
above_later x xs t h = ap (λ b. length (cond b (x ∷ filter (λ y. nat_lt t y) xs) (filter (λ y. nat_lt t y) xs))) (le-ltb t x h)

pub all_above : (x : ℕ) (xs : List ℕ) → All (λ y. x < y) xs → count_above x xs ≡ length xs
all_above x xs h =
    ap length (keep_all (λ y. nat_lt x y) xs (each_of (λ y. x < y) (λ y. nat_lt x y ≡ true) (λ y lt. lt-ltb x y lt) xs (recursion_from_All (λ y. x < y) xs h)))

pub reverse_cons : (x : ℕ) (xs : List ℕ) → reverse (x ∷ xs) ≡ reverse xs ++ x ∷ []
reverse_cons x xs = reverse-append (x ∷ []) xs

down : {A : Type 0} (f : ℕ → A) (x : ℕ) (xs : List ℕ) → map f (reverse (x ∷ xs)) ≡ map f (reverse xs) ++ f x ∷ []
down f x xs = ap (map f) (reverse_cons x xs) ∙ map-append f (reverse xs) (x ∷ [])

down_length : {A : Type 0} (f : ℕ → A) (xs : List ℕ) → length (map f (reverse xs)) ≡ length xs
down_length f xs = length-map (reverse xs) f ∙ length-reverse xs

-- a list that falls, where g counts what is above
pub counted_down : {A : Type 0} (P : A → Type 0) (g : A → ℕ) (f : ℕ → A) (b : ℕ) (ts : List ℕ) → Rises ts → AllByRecursion (λ t. P (f t) × (g (f t) ≡ b + count_above t ts)) ts
    → Counted P g b (map f (reverse ts))
counted_down P g f b [] r h = tt
counted_down P g f b (x ∷ xs) r h =
    let above = recursion_from_All (λ y. x < y) xs r.0 in
    let rest : AllByRecursion (λ t. P (f t) × (g (f t) ≡ b + count_above t xs)) xs = each_of_two (λ y. x < y)
    (λ t. P (f t) × (g (f t) ≡ b + count_above t (x ∷ xs))) (λ t. P (f t) × (g (f t) ≡ b + count_above t xs))
    (λ t lt is. (is.0, is.1 ∙ ap (λ n. b + n) (above_later x xs t (omega arith)))) xs above h.1 in
    let last : g (f x) ≡ b + length (map f (reverse xs)) = h.0.1 ∙ ap (λ n. b + n) (above_later x xs x (omega arith) ∙ all_above x xs r.0 ∙ sym (down_length f xs)) in
    subst (λ ys. Counted P g b ys) (sym (down f x xs))
    (counted-append P g b (map f (reverse xs)) (f x ∷ []) (counted_down P g f b xs r.1 rest) (counted_one P g _ (f x) h.0.0 last))

-- in a list that falls each element stands behind those above it
pub at_down : {A : Type 0} (f : ℕ → A) (ts : List ℕ) (t : ℕ) → Rises ts → Contains ts t → At (map f (reverse ts)) (count_above t ts) (f t)
at_down f [] t r h = none t h
at_down f (x ∷ xs) t r h =
    subst (λ ys. At ys (count_above t (x ∷ xs)) (f t)) (sym (down f x xs))
    (⊎_elim
    (λ same.
    let place : length (map f (reverse xs)) + 0 ≡ count_above t (x ∷ xs) = omega (
      arith,
      down_length f xs,
      above_later x xs t (omega arith),
      ap (λ y. count_above y xs) same,
      all_above x xs r.0,
    ) in
    at_place _ _ _ (f t) place (subst (λ y. At (map f (reverse xs) ++ f y ∷ []) (length (map f (reverse xs)) + 0) (f t)) (sym same) (at_right (map f (reverse xs)) (f t ∷ []) 0 (f t) (at_first (f t) []))))
    (λ later.
    let lt : x < t = All-contains (λ y. x < y) xs t r.0 later in
    at_place _ _ _ (f t) (sym (above_later x xs t (omega arith))) (at_left (map f (reverse xs)) (f x ∷ []) _ (f t) (at_down f xs t r.1 later)))
    (cases x xs t h))

-- fewer are above a greater one
pub fewer_above : (ts : List ℕ) (a t : ℕ) → a < t → Contains ts t → count_above t ts < count_above a ts
fewer_above [] a t lt h = none t h
fewer_above (x ∷ xs) a t lt h =
    ⊎_elim
    (λ same. let here : nat_lt a x ≡ true = lt-ltb a x (omega arith) in
    let not_here = above_later x xs t (omega arith) in
    let one : count_above a (x ∷ xs) ≡ suc (count_above a xs) = ap (λ b. length (cond b (x ∷ filter (λ y. nat_lt a y) xs) (filter (λ y. nat_lt a y) xs))) here in
    omega (arith, no_more xs a t lt))
    (λ later. let rest = fewer_above xs a t lt later in
    cond_both (nat_lt t x) (x ∷ filter (λ y. nat_lt t y) xs) (filter (λ y. nat_lt t y) xs) (λ ys. length ys < count_above a (x ∷ xs))
    (λ up. let one : count_above a (x ∷ xs) ≡ suc (count_above a xs) = ap (λ b. length (cond b (x ∷ filter (λ y. nat_lt a y) xs) (filter (λ y. nat_lt a y) xs)))
    (lt-ltb a x (omega (arith, ltb-true t x up))) in omega arith)
    (λ down. cond_both (nat_lt a x) (x ∷ filter (λ y. nat_lt a y) xs) (filter (λ y. nat_lt a y) xs) (λ ys. count_above t xs < length ys) (λ _. omega arith) (λ _. rest)))
    (cases x xs t h)
  where
    no_more : (xs : List ℕ) (a t : ℕ) → a < t → count_above t xs ≤ count_above a xs
    no_more [] a t lt = omega arith
    no_more (x ∷ xs) a t lt =
        let rest = no_more xs a t lt in
        cond_both (nat_lt t x) (x ∷ filter (λ y. nat_lt t y) xs) (filter (λ y. nat_lt t y) xs) (λ ys. length ys ≤ count_above a (x ∷ xs))
        (λ up. let one : count_above a (x ∷ xs) ≡ suc (count_above a xs) = ap (λ b. length (cond b (x ∷ filter (λ y. nat_lt a y) xs) (filter (λ y. nat_lt a y) xs)))
        (lt-ltb a x (omega (arith, ltb-true t x up))) in omega arith)
        (λ down. cond_both (nat_lt a x) (x ∷ filter (λ y. nat_lt a y) xs) (filter (λ y. nat_lt a y) xs) (λ ys. count_above t xs ≤ length ys) (λ _. omega arith) (λ _. rest))

-- gaps
gap_here : (b x : ℕ) (xs : List ℕ) (t : ℕ) → x ≡ t → gap_after b (x ∷ xs) t ≡ x - b
gap_here b x xs t e = ap (λ c. cond c (x - b) (gap_after x xs t)) (eq-eqb x t e)

gap_later : (b x : ℕ) (xs : List ℕ) (t : ℕ) → (x ≡ t → ⊥) → gap_after b (x ∷ xs) t ≡ gap_after x xs t
gap_later b x xs t ne = ap (λ c. cond c (x - b) (gap_after x xs t)) (ne_eqb x t ne)

gap_some : (b : ℕ) (xs : List ℕ) (t : ℕ) → All (λ y. b < y) xs → Rises xs → Contains xs t → 0 < gap_after b xs t
gap_some b [] t up r h = none t h
gap_some b (x ∷ xs) t up r h =
    let over : b < x = All-contains (λ y. b < y) (x ∷ xs) x up (head x xs) in
    ⊎_elim
    (λ same. omega (arith, gap_here b x xs t same))
    (λ later. let lt : x < t = All-contains (λ y. x < y) xs t r.0 later in
    omega (arith, gap_later b x xs t (λ e. omega arith), gap_some x xs t r.0 r.1 later))
    (cases x xs t h)

-- a gap is at least 1 exactly where the tap is
pub gap_positive : (ts : List ℕ) (t : ℕ) → Rises ts → Contains ts t → nat_lt 0 (gap_of ts t) ≡ nat_lt 0 t
gap_positive [] t r h = none t h
gap_positive (x ∷ xs) t r h =
    ⊎_elim
    (λ same. ap (λ n. nat_lt 0 n) (let e : gap_after 0 (x ∷ xs) t ≡ t = omega (arith, gap_here 0 x xs t same) in e))
    (λ later. let lt : x < t = All-contains (λ y. x < y) xs t r.0 later in
    let some : 0 < gap_after 0 (x ∷ xs) t = omega (arith, gap_later 0 x xs t (λ e. omega arith), gap_some x xs t r.0 r.1 later) in
    lt-ltb 0 _ some ∙ sym (lt-ltb 0 t (omega arith)))
    (cases x xs t h)

-- the first tap is its own gap, and no tap is below it
pub gap_first : (t : ℕ) (ts : List ℕ) → gap_of (t ∷ ts) t ≡ t
gap_first t ts = omega (arith, gap_here 0 t ts t refl)

pub first_least : (t : ℕ) (ts : List ℕ) (c : ℕ) → Rises (t ∷ ts) → Contains (t ∷ ts) c → t ≤ c
first_least t ts c r h =
    ⊎_elim (λ e. omega arith) (λ later. omega (arith, All-contains (λ y. t < y) ts c r.0 later)) (cases t ts c h)

-- the next tap above one: how far it is, and no tap stands between
pub next_above : (ts : List ℕ) (a t : ℕ) (rest : List ℕ) → taps_above a ts ≡ t ∷ rest → Contains ts t × (a < t)
next_above ts a t rest e =
    let k = kept_from (λ y. nat_lt a y) ts t (subst (λ ys. Contains ys t) (sym e) (head t rest)) in
    (k.0, ltb-true a t k.1)

pub next_least : (ts : List ℕ) (a t : ℕ) (rest : List ℕ) (c : ℕ) → Rises ts → taps_above a ts ≡ t ∷ rest → Contains ts c → c < t → c ≤ a
next_least ts a t rest c r e h lt =
    ⊎_elim
    (λ up. let is : Contains (t ∷ rest) c = subst (λ ys. Contains ys c) e (filtered (λ y. nat_lt a y) ts c h (lt-ltb a c up)) in
    absurd (omega (arith, first_least t rest c (subst Rises e (rises-filter (λ y. nat_lt a y) ts r)) is)))
    (λ le. le)
    (cases_lt a c)

pub gap_next : (ts : List ℕ) (b a t : ℕ) (rest : List ℕ) → Rises ts → Contains ts a → taps_above a ts ≡ t ∷ rest → gap_after b ts t ≡ t - a
gap_next [] b a t rest r h e = none a h
gap_next (x ∷ xs) b a t rest r h e =
    let lt = (next_above (x ∷ xs) a t rest e).1 in
    let le : x ≤ a = first_least x xs a r h in
    let skip : taps_above a (x ∷ xs) ≡ taps_above a xs = ap (λ c. cond c (x ∷ taps_above a xs) (taps_above a xs)) (le-ltb a x le) in
    ⊎_elim
    (λ same.
    let all : taps_above a xs ≡ xs = keep_all (λ y. nat_lt a y) xs (each_of (λ y. x < y) (λ y. nat_lt a y ≡ true) (λ y up. lt-ltb a y (omega arith)) xs
    (recursion_from_All (λ y. x < y) xs r.0)) in
    let is : xs ≡ t ∷ rest = sym all ∙ sym skip ∙ e in
    omega (arith, gap_later b x xs t (λ s. omega arith), ap (λ ys. gap_after x ys t) is, gap_here x t rest t refl))
    (λ later. gap_later b x xs t (λ s. omega arith) ∙ gap_next xs x a t rest r.1 later (sym skip ∙ e))
    (cases x xs a h)
