-- Every net has a plan: of the finitely many assignments in a box one is least, and any other can be pressed into the box.
use Rattle.std.proofs.Common.{◌≡◌, ℕ, zero, suc, ◌+◌, ◌*◌, ◌<◌, ◌≤◌, ◌⊎◌, min, List, [], ◌∷◌, length, map, slice_index, get_or, refl, sym, subst, ◌∙◌, ap, arith, ⊎_elim, inl, inr, pos, negsuc, ℤ, ◌+ℤ◌, ◌≤ℤ◌}
use Rattle.std.specs.List.{All}
use Rattle.std.proofs.lemmas.Bool.{cases_lt}
use Rattle.std.proofs.lemmas.Int.{ints}
use Rattle.std.proofs.lemmas.List.{get_or_past, length-map}
use Rattle.std.proofs.lemmas.List.Elements.{All-cons, All-head, All-nil, All-tail}
use Rattle.std.proofs.Math.Nat.{mul-le-mul_left}
use Rattle.delay_net.specs.Limits.{most_offset}
use Rattle.delay_net.specs.Shape.{IsNet}
use Rattle.delay_net.specs.Windows.{IsLeastStorage, MeetsWindow, MeetsWindows, total_storage}
use Rattle.delay_net.specs.declared.net.Read.{Read}
use Rattle.flow_solve.specs.LeastPlan.{HasLeastStorage, IsLeastPlan, lesser_delays}
use Rattle.flow_solve.proofs.LatticeLemmas.{length-lesser, lesser_at, lesser_is_least}
use Rattle.flow_solve.proofs.Pressed.{all_pressed_meet, press, press_most, pressed_delays, total_pressed}

-- n numbers, none above b
abbrev InBox : (n b : ℕ) → List ℕ → Type 0
InBox zero b [] = Unit {0}
InBox zero b (x ∷ xs) = ⊥
InBox (suc n) b [] = ⊥
InBox (suc n) b (x ∷ xs) = (x ≤ b) × InBox n b xs

box_nil : (b : ℕ) (xs : List ℕ) → InBox 0 b xs → xs ≡ []
box_nil b [] h = refl
box_nil b (x ∷ xs) h = absurd h

box_length : (n b : ℕ) (xs : List ℕ) → InBox n b xs → length xs ≡ n
box_length zero b [] h = refl
box_length zero b (x ∷ xs) h = absurd h
box_length (suc n) b [] h = absurd h
box_length (suc n) b (x ∷ xs) h = omega (arith, box_length n b xs h.1)

box_map : (f : ℕ → ℕ) (b : ℕ) → ((v : ℕ) → f v ≤ b) → (n : ℕ) (xs : List ℕ) → length xs ≡ n → InBox n b (map f xs)
box_map f b h zero [] e = tt
box_map f b h zero (x ∷ xs) e = absurd (omega arith)
box_map f b h (suc n) [] e = absurd (omega arith)
box_map f b h (suc n) (x ∷ xs) e = (h x, box_map f b h n xs (omega arith))

-- of the lists in the box that have the property one is least
record Best (n b : ℕ) (P : List ℕ → Type 0) (f : List ℕ → ℕ) : Type 0 where
  best : List ℕ
  inside : InBox n b best
  good : P best
  least : (ys : List ℕ) → InBox n b ys → P ys → f best ≤ f ys

abbrev NoneIn : (n b : ℕ) → (List ℕ → Type 0) → Type 0
NoneIn n b P = (ys : List ℕ) → InBox n b ys → P ys → ⊥

-- of those whose first number is at most k
record BestHead (n b k : ℕ) (P : List ℕ → Type 0) (f : List ℕ → ℕ) : Type 0 where
  head : ℕ
  tail : List ℕ
  within : head ≤ k
  inside : InBox n b tail
  good : P (head ∷ tail)
  least : (y : ℕ) (ys : List ℕ) → y ≤ k → InBox n b ys → P (y ∷ ys) → f (head ∷ tail) ≤ f (y ∷ ys)

abbrev NoHead : (n b k : ℕ) → (List ℕ → Type 0) → Type 0
NoHead n b k P = (y : ℕ) (ys : List ℕ) → y ≤ k → InBox n b ys → P (y ∷ ys) → ⊥

-- a tail of this first number
abbrev Tail : (n b : ℕ) → (List ℕ → Type 0) → (List ℕ → ℕ) → ℕ → Type 0
Tail n b P f x = Best n b (λ xs. P (x ∷ xs)) (λ xs. f (x ∷ xs)) ⊎ NoneIn n b (λ xs. P (x ∷ xs))

module _ (n b : ℕ) (P : List ℕ → Type 0) (f : List ℕ → ℕ) where
  at_head : (x y : ℕ) (ys : List ℕ) → y ≡ x → P (y ∷ ys) → P (x ∷ ys)
  at_head x y ys e = subst (λ z. P (z ∷ ys)) e

  head_first : Tail n b P f 0 → BestHead n b 0 P f ⊎ NoHead n b 0 P
  head_first =
      ⊎_elim (λ (t : Best n b (λ xs. P (0 ∷ xs)) (λ xs. f (0 ∷ xs))). inl (record {
        head = 0;
        tail = t.best;
        within = omega arith;
        inside = t.inside;
        good = t.good;
        least = λ y ys l h p.
            let e : y ≡ 0 = omega arith in
            let same : f (y ∷ ys) ≡ f (0 ∷ ys) = ap (λ z. f (z ∷ ys)) e in
            let at = t.least ys h (at_head 0 y ys e p) in
            omega arith;
      })) (λ (none : NoneIn n b (λ xs. P (0 ∷ xs))). inr (λ y ys l h p. none ys h (at_head 0 y ys (omega arith) p)))

  -- the better of two
  keep_first : (k : ℕ) (a : BestHead n b k P f) (t : Best n b (λ xs. P (suc k ∷ xs)) (λ xs. f (suc k ∷ xs))) → f (a.head ∷ a.tail) ≤ f (suc k ∷ t.best) → BestHead n b (suc k) P f
  keep_first k a t better = record {
    head = a.head;
    tail = a.tail;
    within = let w = a.within in omega arith;
    inside = a.inside;
    good = a.good;
    least = λ y ys l h p. ⊎_elim (λ (m : k < y).
        let e : y ≡ suc k = omega arith in
        let same : f (y ∷ ys) ≡ f (suc k ∷ ys) = ap (λ z. f (z ∷ ys)) e in
        let at = t.least ys h (at_head (suc k) y ys e p) in
        omega arith) (λ (m : y ≤ k). a.least y ys m h p) (cases_lt k y);
  }

  take_last : (k : ℕ) (t : Best n b (λ xs. P (suc k ∷ xs)) (λ xs. f (suc k ∷ xs))) → ((y : ℕ) (ys : List ℕ) → y ≤ k → InBox n b ys → P (y ∷ ys) → f (suc k ∷ t.best) ≤ f (y ∷ ys)) → BestHead n b (suc k) P f
  take_last k t better = record {
    head = suc k;
    tail = t.best;
    within = omega arith;
    inside = t.inside;
    good = t.good;
    least = λ y ys l h p. ⊎_elim (λ (m : k < y).
        let e : y ≡ suc k = omega arith in
        let same : f (y ∷ ys) ≡ f (suc k ∷ ys) = ap (λ z. f (z ∷ ys)) e in
        let at = t.least ys h (at_head (suc k) y ys e p) in
        omega arith) (λ (m : y ≤ k). better y ys m h p) (cases_lt k y);
  }

  without_last : (k : ℕ) (a : BestHead n b k P f) → NoneIn n b (λ xs. P (suc k ∷ xs)) → BestHead n b (suc k) P f
  without_last k a none = record {
    head = a.head;
    tail = a.tail;
    within = let w = a.within in omega arith;
    inside = a.inside;
    good = a.good;
    least = λ y ys l h p. ⊎_elim (λ (m : k < y). absurd (none ys h (at_head (suc k) y ys (omega arith) p))) (λ (m : y ≤ k). a.least y ys m h p) (cases_lt k y);
  }

  head_more : (k : ℕ) → Tail n b P f (suc k) → BestHead n b k P f ⊎ NoHead n b k P → BestHead n b (suc k) P f ⊎ NoHead n b (suc k) P
  head_more k t before =
      ⊎_elim (λ (a : BestHead n b k P f). inl (⊎_elim (λ (l : Best n b (λ xs. P (suc k ∷ xs)) (λ xs. f (suc k ∷ xs))).
      ⊎_elim (λ (m : f (suc k ∷ l.best) < f (a.head ∷ a.tail)). take_last k l (λ y ys c h p. let at = a.least y ys c h p in omega arith))
      (λ (m : f (a.head ∷ a.tail) ≤ f (suc k ∷ l.best)). keep_first k a l m) (cases_lt (f (suc k ∷ l.best)) (f (a.head ∷ a.tail)))) (λ none. without_last k a none) t))
      (λ (never : NoHead n b k P). ⊎_elim (λ (l : Best n b (λ xs. P (suc k ∷ xs)) (λ xs. f (suc k ∷ xs))). inl (take_last k l (λ y ys c h p. absurd (never y ys c h p))))
      (λ (none : NoneIn n b (λ xs. P (suc k ∷ xs))). inr (λ y ys c h p. ⊎_elim (λ (m : k < y). none ys h (at_head (suc k) y ys (omega arith) p)) (λ (m : y ≤ k). never y ys m h p) (cases_lt k y))) t)
      before

  heads : ((x : ℕ) → Tail n b P f x) → (k : ℕ) → BestHead n b k P f ⊎ NoHead n b k P
  heads tails zero = head_first (tails 0)
  heads tails (suc k) = head_more k (tails (suc k)) (heads tails k)

  whole : BestHead n b b P f → Best (suc n) b P f
  whole a = record {
    best = a.head ∷ a.tail;
    inside = (a.within, a.inside);
    good = a.good;
    least = λ ys. elim ys as (λ (zs : List ℕ). InBox (suc n) b zs → P zs → f (a.head ∷ a.tail) ≤ f zs) [
      | [] ↦ λ h p. absurd h
      | y ∷ zs ↦ λ h p. a.least y zs h.0 h.1 p
    ];
  }

  nothing : NoHead n b b P → NoneIn (suc n) b P
  nothing never = λ ys. elim ys as (λ (zs : List ℕ). InBox (suc n) b zs → P zs → ⊥) [
    | [] ↦ λ h p. h
    | y ∷ zs ↦ λ h p. never y zs h.0 h.1 p
  ]

-- one is least, or none has the property
search : (n b : ℕ) (P : List ℕ → Type 0) (f : List ℕ → ℕ) → ((xs : List ℕ) → P xs ⊎ (P xs → ⊥)) → Best n b P f ⊎ NoneIn n b P
search zero b P f test =
    ⊎_elim (λ (here : P []). inl (record {
      best = [];
      inside = tt;
      good = here;
      least = λ ys h p. let same : f ys ≡ f [] = ap f (box_nil b ys h) in omega arith;
    })) (λ (never : P [] → ⊥). inr (λ ys h p. never (subst P (box_nil b ys h) p))) (test [])
search (suc n) b P f test =
    ⊎_elim (λ a. inl (whole n b P f a)) (λ never. inr (nothing n b P f never))
    (heads n b P f (λ x. search n b (λ xs. P (x ∷ xs)) (λ xs. f (x ∷ xs)) (λ xs. test (x ∷ xs))) b)

-- windows can be tested
int_within : (z : ℤ) (b : ℕ) → (z ≤ℤ pos b) ⊎ (z ≤ℤ pos b → ⊥)
int_within (pos a) b =
    ⊎_elim (λ (l : b < a). inr (λ h. absurd (omega (arith, ints)))) (λ (l : a ≤ b). inl (omega (arith, ints))) (cases_lt b a)
int_within (negsuc a) b = inl (omega (arith, ints))

all_or_not : {X : Type 0} (P : X → Type 0) → ((x : X) → P x ⊎ (P x → ⊥)) → (xs : List X) → All P xs ⊎ (All P xs → ⊥)
all_or_not P test [] = inl (All-nil P)
all_or_not P test (x ∷ xs) =
    ⊎_elim (λ here. ⊎_elim (λ rest. inl (All-cons P x xs here rest)) (λ never. inr (λ all. never (All-tail P x xs all))) (all_or_not P test xs)) (λ never. inr (λ all. never (All-head P x xs all))) (test x)

meets_or_not : (reads : List Read) (delays : List ℕ) → MeetsWindows reads delays ⊎ (MeetsWindows reads delays → ⊥)
meets_or_not reads delays =
    all_or_not (MeetsWindow delays) (λ r. int_within (pos (slice_index delays r.of) +ℤ r.offset) (slice_index delays r.reader)) reads

-- delays that rise by the greatest offset meet all windows
abbrev stairs : (n k m : ℕ) → List ℕ
stairs zero k m = []
stairs (suc n) k m = k ∷ stairs n (k + m) m

stairs_length : (n k m : ℕ) → length (stairs n k m) ≡ n
stairs_length zero k m = refl
stairs_length (suc n) k m = omega (arith, stairs_length n (k + m) m)

stairs_at : (n k m t : ℕ) → t < n → slice_index (stairs n k m) t ≡ k + t * m
stairs_at zero k m t l = absurd (omega arith)
stairs_at (suc n) k m zero l = omega arith
stairs_at (suc n) k m (suc t) l = omega (arith, stairs_at n (k + m) m t (omega arith))

step_up : (a b m : ℕ) → a < b → a * m + m ≤ b * m
step_up a b m l = let h = mul-le-mul_left m (let k : suc a ≤ b = omega arith in k) in omega (arith, h)

-- the sum of a list
abbrev added : List ℕ → ℕ
added [] = 0
added (x ∷ xs) = x + added xs

added_lesser : (xs ys : List ℕ) → added (lesser_delays xs ys) ≤ added xs
added_lesser [] ys = omega arith
added_lesser (x ∷ xs) [] = omega arith
added_lesser (x ∷ xs) (y ∷ ys) = omega (arith, added_lesser xs ys)

below_by_sum : (xs ys : List ℕ) → length xs ≡ length ys → added xs ≤ added (lesser_delays xs ys) → (t : ℕ) → get_or xs t 0 ≤ get_or ys t 0
below_by_sum [] ys e h t = omega arith
below_by_sum (x ∷ xs) [] e h t = absurd (omega arith)
below_by_sum (x ∷ xs) (y ∷ ys) e h zero = omega (arith, added_lesser xs ys)
below_by_sum (x ∷ xs) (y ∷ ys) e h (suc t) = below_by_sum xs ys (omega arith) (omega (arith, added_lesser xs ys)) t

lesser_inside : (n b : ℕ) (xs ys : List ℕ) → length ys ≡ n → InBox n b xs → InBox n b (lesser_delays xs ys)
lesser_inside zero b [] ys e h = tt
lesser_inside zero b (x ∷ xs) ys e h = absurd h
lesser_inside (suc n) b [] ys e h = absurd h
lesser_inside (suc n) b (x ∷ xs) [] e h = absurd (omega arith)
lesser_inside (suc n) b (x ∷ xs) (y ∷ ys) e h = (let k = h.0 in omega arith, lesser_inside n b xs ys (omega arith) h.1)

module _ (weights : List ℕ) (reads : List Read) (net : IsNet weights reads) where
  abbrev n : ℕ
  n = length weights

  abbrev b : ℕ
  b = n * most_offset

  abbrev total : List ℕ → ℕ
  total = total_storage weights reads

  -- an assignment that meets the windows, pressed, is in the box
  pressed_inside : (delays : List ℕ) → length delays ≡ n → InBox n b (pressed_delays weights delays)
  pressed_inside delays e = box_map (press n most_offset delays) b (press_most n most_offset delays) n delays e

  stairs_meet : MeetsWindows reads (stairs n 0 most_offset)
  stairs_meet = λ k d lt.
      let r = get_or reads k d in
      let order = net.order k d lt in
      let small = (net.offsets k d lt).1 in
      let of = stairs_at n 0 most_offset r.of (omega (arith, order.0, order.1)) in
      let reader = stairs_at n 0 most_offset r.reader order.1 in
      let up = step_up r.of r.reader most_offset order.0 in
      omega (arith, ints)

  -- one of least storage in the box
  best : Best n b (MeetsWindows reads) total
  best =
      ⊎_elim (λ a. a) (λ none. absurd (none (pressed_delays weights (stairs n 0 most_offset)) (pressed_inside (stairs n 0 most_offset) (stairs_length n 0 most_offset))
      (all_pressed_meet weights reads net (stairs n 0 most_offset) (stairs_length n 0 most_offset) stairs_meet))) (search n b (MeetsWindows reads) total (meets_or_not reads))

  best_least : IsLeastStorage weights reads (total best.best)
  best_least others size meets =
      let press = total_pressed weights reads net others size meets in
      let at = best.least (pressed_delays weights others) (pressed_inside others size) (all_pressed_meet weights reads net others size meets) in
      omega arith

  -- of those the one whose delays have the least sum
  abbrev IsLeast : List ℕ → Type 0
  IsLeast delays = MeetsWindows reads delays × (total delays ≤ total best.best)

  least_or_not : (delays : List ℕ) → IsLeast delays ⊎ (IsLeast delays → ⊥)
  least_or_not delays =
      ⊎_elim (λ meets. ⊎_elim (λ (l : total best.best < total delays). inr (λ (h : IsLeast delays). let k = h.1 in absurd (omega arith))) (λ (l : total delays ≤ total best.best). inl (meets, l)) (cases_lt (total best.best) (total delays)))
      (λ never. inr (λ (h : IsLeast delays). never h.0)) (meets_or_not reads delays)

  first : Best n b IsLeast added
  first =
      ⊎_elim (λ a. a) (λ none. absurd (none best.best best.inside (best.good, omega arith))) (search n b IsLeast added least_or_not)

  first_least : HasLeastStorage weights reads first.best
  first_least = record {
    assignment = box_length n b first.best first.inside;
    meets = first.good.0;
    least = λ others size meets. let k = first.good.1 in let at = best_least others size meets in omega arith;
  }

  pub plan_there : (plan : List ℕ) × IsLeastPlan weights reads plan
  plan_there = (
    first.best,
    record {
      least = first_least;
      first = λ others least t l.
          let both = lesser_is_least weights reads first.best others first_least least in
          let size : length first.best ≡ n = box_length n b first.best first.inside in
          let inside = lesser_inside n b first.best others least.assignment first.inside in
          let few = both.least best.best (box_length n b best.best best.inside) best.good in
          below_by_sum first.best others (size ∙ sym least.assignment) (first.least (lesser_delays first.best others) inside (both.meets, few)) t;
    },
  )
