-- How many staged tensors there are, and sums over them: each live tensor stands among them once.
use Rattle.std.proofs.Common.{◌≡◌, ℕ, zero, suc, ◌+◌, ◌-◌, ◌<◌, ◌≤◌, Bool, true, false, not, ◌&&◌, ◌||◌, ◌==◌, List, [], ◌∷◌, ◌++◌, length, map, take, drop, get_or, refl, sym, ◌∙◌, ap, arith, ⊎_elim, cond, if◌then◌else◌, add-one, eq-eqb, length-append}
use Rattle.std.specs.List.{All, filter, sum_by}
use Rattle.std.proofs.Math.Bool.{or-false}
use Rattle.std.proofs.lemmas.Bool.{cases_lt, false_from_ne_true, eqb-true}
use Rattle.std.proofs.lemmas.List.{length-map, take_all, take_more}
use Rattle.std.proofs.lemmas.List.Elements.{All-head, All-tail, filter-append}
use Rattle.std.proofs.lemmas.List.Folds.{list_any-append}
use Rattle.std.proofs.lemmas.List.Sums.{sum_by-append, sum_by-cons, sum_by_push}
use Rattle.soda_ir.specs.Counts.{count_below, distinct_count, is_input, is_live, is_live_statement, live_count, read_count, sum_below, tensor_reads}
use Rattle.soda_ir.specs.Points.{listed}
use Rattle.soda_ir.specs.Program.{PlainProgram}
use Rattle.soda_ir.specs.Valid.{IsSound}
use Rattle.soda_ir.proofs.CallerLemmas.{ext, sum_below_same}
use Rattle.time_stages.specs.declared.staging.StagedTensor.{StagedTensor}
use Rattle.time_stages.specs.Placing.{is_among, placing_order}
use Rattle.time_stages.specs.Staged.{inputs_of, live_statements, staged_statements, staged_tensor, staged_tensors}
use Rattle.time_stages.proofs.Closed.{input_reads}
use Rattle.time_stages.proofs.Order.{order_all, order_once}
use Rattle.time_stages.proofs.StagedLists.{order_within, split_any, statements_none, statements_step, tensors_are}

-- ---- a list without repeats

abbrev weighed : (ℕ → Bool) → (ℕ → ℕ) → ℕ → ℕ
weighed h v y = if h y then v y else 0

zeros : (n : ℕ) → sum_below (λ y. 0) n ≡ 0
zeros zero = refl
zeros (suc n) = omega (arith, zeros n)

apart_from : (x y : ℕ) → (x ≡ y → ⊥) → (x == y) ≡ false
apart_from x y h = false_from_ne_true (x == y) (λ e. h (eqb-true x y e))

at_once : (h e : Bool) (v : ℕ) → h ≡ false → e ≡ true → (if h || e then v else 0) ≡ (if h then v else 0) + v
at_once true e v a b = absurd (cc)
at_once false true v a b = omega arith
at_once false false v a b = absurd (cc)

-- one number more
sum_with : (h : ℕ → Bool) (v : ℕ → ℕ) (x n : ℕ) → x < n → h x ≡ false → sum_below (weighed (λ y. h y || x == y) v) n ≡ sum_below (weighed h v) n + v x
sum_with h v x zero l e = absurd (omega arith)
sum_with h v x (suc n) l e =
    ⊎_elim (λ (m : x < n).
    let same : weighed (λ y. h y || x == y) v n ≡ weighed h v n = ap (λ b. if b then v n else 0) (ap (λ c. h n || c) (apart_from x n (λ i. omega arith)) ∙ or-false (h n)) in
    omega (arith, sum_with h v x n m e)) (λ (m : n ≤ x).
    let i : x ≡ n = omega arith in
    let below : sum_below (weighed (λ y. h y || x == y) v) n ≡ sum_below (weighed h v) n = sum_below_same (weighed (λ y. h y || x == y) v) (weighed h v) n
    (λ y k. ap (λ b. if b then v y else 0) (ap (λ c. h y || c) (apart_from x y (λ j. omega arith)) ∙ or-false (h y))) in
    let here : weighed (λ y. h y || x == y) v n ≡ weighed h v n + v n = at_once (h n) (x == n) (v n) (sym (ap h i) ∙ e) (eq-eqb x n i) in
    let last : v x ≡ v n = ap v i in
    omega arith) (cases_lt x n)

among_push : (xs : List ℕ) (x y : ℕ) → is_among y (xs ++ x ∷ []) ≡ (is_among y xs || x == y)
among_push xs x y =
    list_any-append (λ z. z == y) xs (x ∷ []) ∙ ap (λ b. is_among y xs || b) (or-false (x == y))

-- no number stands in the list twice
abbrev Once : List ℕ → Type 0
Once xs = (before after : List ℕ) (x : ℕ) → xs ≡ before ++ x ∷ after → is_among x before ≡ false

sum_taken : (xs : List ℕ) (v : ℕ → ℕ) (n : ℕ) → Once xs → All (λ x. x < n) xs → (i : ℕ) → i ≤ length xs → sum_by v (take i xs) ≡ sum_below (weighed (λ y. is_among y (take i xs)) v) n
sum_taken xs v n once within zero l = sym (zeros n)
sum_taken xs v n once within (suc i) l =
    let x = get_or xs i 0 in
    let more : take (suc i) xs ≡ take i xs ++ x ∷ [] = sym (ap (λ k. take k xs) (add-one i)) ∙ take_more xs i 0 (omega arith) in
    let fresh : is_among x (take i xs) ≡ false = once (take i xs) (drop (i + 1) xs) x (split_any xs i 0 (omega arith)) in
    ap (sum_by v) more
    ∙ sum_by_push v (take i xs) x
    ∙ ap (λ k. k + v x) (sum_taken xs v n once within i (omega arith))
    ∙ sym (sum_with (λ y. is_among y (take i xs)) v x n (within i 0 (omega arith)) fresh)
    ∙ ap (λ (h : ℕ → Bool). sum_below (weighed h v) n) (ext (λ y. is_among y (take i xs) || x == y) (λ y. is_among y (take (suc i) xs)) (λ y. sym (ap (is_among y) more ∙ among_push (take i xs) x y)))

sum_once : (xs : List ℕ) (v : ℕ → ℕ) (n : ℕ) → Once xs → All (λ x. x < n) xs → sum_by v xs ≡ sum_below (weighed (λ y. is_among y xs) v) n
sum_once xs v n once within =
    let whole : take (length xs) xs ≡ xs = take_all (length xs) xs (omega arith) in
    ap (sum_by v) (sym whole) ∙ sum_taken xs v n once within (length xs) (omega arith)
    ∙ ap (λ (ys : List ℕ). sum_below (weighed (λ y. is_among y ys) v) n) whole

-- ---- sums over lists

sum_filter : (f : ℕ → Bool) (w : ℕ → ℕ) (xs : List ℕ) → sum_by w (filter f xs) ≡ sum_by (weighed f w) xs
sum_filter f w [] = refl
sum_filter f w (x ∷ xs) =
    by (f x) ∙ ap (λ k. (if f x then w x else 0) + k) (sum_filter f w xs) ∙ sym (sum_by-cons (weighed f w) x xs)
  where
    by : (b : Bool) → sum_by w (cond b (x ∷ filter f xs) (filter f xs)) ≡ (if b then w x else 0) + sum_by w (filter f xs)
    by true = sum_by-cons w x (filter f xs)
    by false = omega arith

sum_mapped : {A B : Type 0} (f : B → ℕ) (g : A → B) (xs : List A) → sum_by f (map g xs) ≡ sum_by (λ x. f (g x)) xs
sum_mapped f g [] = refl
sum_mapped f g (x ∷ xs) =
    sum_by-cons f (g x) (map g xs) ∙ ap (λ k. f (g x) + k) (sum_mapped f g xs) ∙ sym (sum_by-cons (λ y. f (g y)) x xs)

pub sum_same : {A : Type 0} (f g : A → ℕ) (xs : List A) → All (λ x. f x ≡ g x) xs → sum_by f xs ≡ sum_by g xs
sum_same f g [] h = refl
sum_same f g (x ∷ xs) h =
    sum_by-cons f x xs ∙ ap (λ k. k + sum_by f xs) (All-head (λ z. f z ≡ g z) x xs h) ∙ ap (λ k. g x + k) (sum_same f g xs (All-tail (λ z. f z ≡ g z) x xs h)) ∙ sym (sum_by-cons g x xs)

pub length_sum : {A : Type 0} (xs : List A) → length xs ≡ sum_by (λ x. 1) xs
length_sum [] = refl
length_sum (x ∷ xs) = omega (arith, length_sum xs, sum_by-cons (λ y. 1) x xs)

count_sum : (f : ℕ → Bool) (n : ℕ) → sum_below (weighed f (λ y. 1)) n ≡ count_below f n
count_sum f zero = refl
count_sum f (suc n) = ap (λ k. k + (if f n then 1 else 0)) (count_sum f n)

numbers_counted : (f : ℕ → Bool) (n : ℕ) → length (filter f (listed (λ x. x) n)) ≡ count_below f n
numbers_counted f zero = refl
numbers_counted f (suc n) =
    ap length (filter-append f (listed (λ x. x) n) (n ∷ []))
    ∙ length-append (filter f (listed (λ x. x) n)) (filter f (n ∷ []))
    ∙ ap (λ k. k + length (filter f (n ∷ []))) (numbers_counted f n)
    ∙ ap (λ k. count_below f n + k) (by (f n))
  where
    by : (b : Bool) → length (cond b (n ∷ []) []) ≡ (if b then 1 else 0)
    by true = refl
    by false = refl

kept_by : (b : Bool) (w : ℕ → ℕ) (x : ℕ) (xs : List ℕ) → (b ≡ true → w x ≡ 0) → sum_by w xs ≡ 0 → sum_by w (cond b (x ∷ xs) xs) ≡ 0
kept_by true w x xs h e = omega (arith, sum_by-cons w x xs, h refl)
kept_by false w x xs h e = e

-- what is nothing for all that pass
kept_nothing : (f : ℕ → Bool) (w : ℕ → ℕ) → ((x : ℕ) → f x ≡ true → w x ≡ 0) → (xs : List ℕ) → sum_by w (filter f xs) ≡ 0
kept_nothing f w h [] = refl
kept_nothing f w h (x ∷ xs) = kept_by (f x) w x (filter f xs) (h x) (kept_nothing f w h xs)

-- ---- the statements of an iteration, and of all

both_tests : (a b : Bool) (v : ℕ) → (if not a then (if b then v else 0) else 0) ≡ (if not a && b then v else 0)
both_tests true b v = refl
both_tests false b v = refl

module _ (p : PlainProgram) (sound : IsSound p) where
  n : ℕ
  n = length p.tensors

  pub statements_sum : (w : ℕ → ℕ) (later : ℕ) → sum_by w (live_statements p later) ≡ sum_below (λ x. if is_live_statement p later x then w x else 0) (length p.tensors)
  statements_sum w later =
      let v = weighed (is_live p later) w in
      sum_filter (is_live p later) w (placing_order p)
      ∙ sum_once (placing_order p) v (length p.tensors) (λ before after x e. order_once p (length p.tensors) before after x e) (order_within p)
      ∙ sum_below_same (weighed (λ y. is_among y (placing_order p)) v) (λ x. if is_live_statement p later x then w x else 0) (length p.tensors)
      (λ y l. ap (λ b. if b then v y else 0) (order_all p y sound l) ∙ both_tests (is_input p y) (is_live p later y) (w y))

  -- the sum over an iteration
  abbrev part : (ℕ → ℕ) → ℕ → ℕ
  part w later = sum_below (λ x. if is_live_statement p later x then w x else 0) (length p.tensors)

  abbrev of_tensor : (ℕ → ℕ) → StagedTensor → ℕ
  of_tensor w s = w s.tensor

  sum_step : (w : ℕ → ℕ) (t : ℕ) → sum_by (of_tensor w) (staged_statements p (suc t)) ≡ sum_by (of_tensor w) (staged_statements p t) + part w (p.iterate - suc t)
  sum_step w t =
      ap (sum_by (of_tensor w)) (statements_step p t)
      ∙ sum_by-append (of_tensor w) (staged_statements p t) (map (staged_tensor p t) (live_statements p (p.iterate - suc t)))
      ∙ ap (λ k. sum_by (of_tensor w) (staged_statements p t) + k) (sum_mapped (of_tensor w) (staged_tensor p t) (live_statements p (p.iterate - suc t)) ∙ statements_sum w (p.iterate - suc t))

  sum_until : (w : ℕ → ℕ) (t : ℕ) → t ≤ p.iterate → sum_by (of_tensor w) (staged_statements p t) + sum_below (part w) (p.iterate - t) ≡ sum_below (part w) p.iterate
  sum_until w zero l =
      let none : sum_by (of_tensor w) (staged_statements p 0) ≡ 0 = ap (sum_by (of_tensor w)) (statements_none p) in
      let all : sum_below (part w) (p.iterate - 0) ≡ sum_below (part w) p.iterate = ap (sum_below (part w)) (omega arith) in
      omega arith
  sum_until w (suc t) l =
      let more : sum_below (part w) (p.iterate - t) ≡ sum_below (part w) (p.iterate - suc t) + part w (p.iterate - suc t) = ap (sum_below (part w)) (let e : p.iterate - t ≡ suc (p.iterate - suc t) = omega arith in e) in
      omega (arith, sum_until w t (omega arith), sum_step w t)

  pub sum_all : (w : ℕ → ℕ) → sum_by (of_tensor w) (staged_statements p p.iterate) ≡ sum_below (part w) p.iterate
  sum_all w =
      let none : sum_below (part w) (p.iterate - p.iterate) ≡ 0 = ap (sum_below (part w)) (let e : p.iterate - p.iterate ≡ 0 = omega arith in e) in
      omega (arith, sum_until w p.iterate (omega arith))

  live_count_is : live_count p ≡ count_below (is_input p) (length p.tensors) + sum_below (λ later. count_below (is_live_statement p later) (length p.tensors)) p.iterate
  unfolding live_count
  live_count_is = refl

  read_count_is : read_count p ≡ sum_below (part (λ x. distinct_count (tensor_reads p x))) p.iterate
  unfolding read_count
  read_count_is = refl

  -- as many staged tensors as are counted
  pub tensors_counted : length (staged_tensors p) ≡ live_count p
  tensors_counted =
      let statements : length (staged_statements p p.iterate) ≡ sum_below (λ later. count_below (is_live_statement p later) (length p.tensors)) p.iterate = length_sum (staged_statements p p.iterate) ∙ sum_all (λ x. 1)
      ∙ sum_below_same (part (λ x. 1)) (λ later. count_below (is_live_statement p later) (length p.tensors)) p.iterate (λ later l. count_sum (is_live_statement p later) (length p.tensors)) in
      ap length (tensors_are p)
      ∙ length-append (map (staged_tensor p 0) (inputs_of p)) (staged_statements p p.iterate)
      ∙ ap (λ k. k + length (staged_statements p p.iterate)) (length-map (inputs_of p) (staged_tensor p 0) ∙ numbers_counted (is_input p) (length p.tensors))
      ∙ ap (λ k. count_below (is_input p) (length p.tensors) + k) statements
      ∙ sym live_count_is

  -- a sum over the staged tensors of what is nothing for inputs
  pub tensors_sum : (w : ℕ → ℕ) → ((x : ℕ) → is_input p x ≡ true → w x ≡ 0) → sum_by (of_tensor w) (staged_tensors p) ≡ sum_below (part w) p.iterate
  tensors_sum w h =
      ap (sum_by (of_tensor w)) (tensors_are p)
      ∙ sum_by-append (of_tensor w) (map (staged_tensor p 0) (inputs_of p)) (staged_statements p p.iterate)
      ∙ ap (λ k. k + sum_by (of_tensor w) (staged_statements p p.iterate)) (sum_mapped (of_tensor w) (staged_tensor p 0) (inputs_of p) ∙ kept_nothing (is_input p) w h (listed (λ x. x) (length p.tensors)))
      ∙ let e : 0 + sum_by (of_tensor w) (staged_statements p p.iterate) ≡ sum_by (of_tensor w) (staged_statements p p.iterate) = omega arith in e
      ∙ sum_all w

  pub reads_summed : sum_by (λ (s : StagedTensor). distinct_count (tensor_reads p s.tensor)) (staged_tensors p) ≡ read_count p
  reads_summed =
      tensors_sum (λ x. distinct_count (tensor_reads p x)) (λ x e. ap distinct_count (input_reads p sound x e)) ∙ sym read_count_is
