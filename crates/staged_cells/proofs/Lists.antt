-- The elements of lists that are put together, and lists of numbers that rise.
use Rattle.std.proofs.Common.{◌≡◌, ℕ, zero, suc, ◌+◌, ◌<◌, ◌≤◌, Bool, true, false, cond, min, List, [], ◌∷◌, length, map, get_or, slice_index, ◌↔◌, ℤ, refl, sym, ◌∙◌, ap, subst, arith, ⊎_elim}
use Rattle.std.specs.List.{All, Contains, filter, flat_map, fold, range_with_len}
use Rattle.std.proofs.lemmas.Bool.{cases_lt, cond_both}
use Rattle.std.proofs.lemmas.List.{get_or-map, length-map}
use Rattle.std.proofs.lemmas.List.Elements.{All-append, All-cons, All-contains_itself, All-filter, All-nil, Contains-append_left, Contains-append_right, filter_passes}
use Rattle.net_shape.specs.Lists.{joined}
use Rattle.net_shape.specs.Queues.{by_receiver, goes_before, put_queue}
use Rattle.net_ir.specs.declared.network.Queue.{Queue}

pub here : {A : Type 0} (x : A) (xs : List A) → Contains (x ∷ xs) x
here x xs = (0, omega arith, refl)

pub later : {A : Type 0} (y : A) (xs : List A) (x : A) → Contains xs x → Contains (y ∷ xs) x
later y xs x h = Contains-append_right (y ∷ []) xs x h

pub in_flat : {A B : Type 0} (f : A → List B) (xs : List A) (k : ℕ) (x : A) (y : B) → k < length xs → get_or xs k x ≡ x → Contains (f x) y
    → Contains (flat_map f xs) y
in_flat f [] k x y lt is h = absurd (omega arith)
in_flat f (z ∷ zs) zero x y lt is h = Contains-append_left (f z) (flat_map f zs) y (subst (λ w. Contains (f w) y) (sym is) h)
in_flat f (z ∷ zs) (suc k) x y lt is h = Contains-append_right (f z) (flat_map f zs) y (in_flat f zs k x y (omega arith) is h)

pub in_joined : {A : Type 0} (f : ℕ → List A) (n i : ℕ) (x : A) → i < n → Contains (f i) x → Contains (joined f n) x
unfolding joined
in_joined f zero i x lt h = absurd (omega arith)
in_joined f (suc n) i x lt h =
    ⊎_elim
    (λ (l : i < n). Contains-append_left (joined f n) (f n) x (in_joined f n i x l h))
    (λ (l : n ≤ i). let e : i ≡ n = omega arith in Contains-append_right (joined f n) (f n) x (subst (λ j. Contains (f j) x) e h))
    (cases_lt i n)

pub in_map : {A B : Type 0} (f : A → B) (xs : List A) (x : A) → Contains xs x → Contains (map f xs) (f x)
in_map f xs x h = (h.0, omega (arith, length-map xs f, h.1), get_or-map f xs h.0 x (f x) h.1 ∙ ap f h.2)

pub in_filter : {A : Type 0} (f : A → Bool) (xs : List A) (k : ℕ) (x : A) → k < length xs → get_or xs k x ≡ x → f x ≡ true → Contains (filter f xs) x
in_filter f [] k x lt is e = absurd (omega arith)
in_filter f (z ∷ zs) zero x lt is e =
    subst (λ (b : Bool). Contains (cond b (z ∷ filter f zs) (filter f zs)) x) (sym (ap f is ∙ e))
    (subst (λ w. Contains (z ∷ filter f zs) w) is (here z (filter f zs)))
in_filter f (z ∷ zs) (suc k) x lt is e =
    let rest = in_filter f zs k x (omega arith) is e in
    cond_both (f z) (z ∷ filter f zs) (filter f zs) (λ ys. Contains ys x) (λ _. later z (filter f zs) x rest) (λ _. rest)

put_first : (a : Queue) (bs : List Queue) → Contains (put_queue a bs) a
put_first a [] = here a []
put_first a (b ∷ bs) =
    cond_both (goes_before a b) (a ∷ b ∷ bs) (b ∷ put_queue a bs) (λ qs. Contains qs a) (λ _. here a (b ∷ bs))
    (λ _. later b (put_queue a bs) a (put_first a bs))

put_other : (a : Queue) (bs : List Queue) (k : ℕ) (x : Queue) → k < length bs → get_or bs k x ≡ x → Contains (put_queue a bs) x
put_other a [] k x lt is = absurd (omega arith)
put_other a (b ∷ bs) zero x lt is =
    subst (λ w. Contains (put_queue a (b ∷ bs)) w) is
    (cond_both (goes_before a b) (a ∷ b ∷ bs) (b ∷ put_queue a bs) (λ qs. Contains qs b) (λ _. later a (b ∷ bs) b (here b bs)) (λ _. here b (put_queue a bs)))
put_other a (b ∷ bs) (suc k) x lt is =
    cond_both (goes_before a b) (a ∷ b ∷ bs) (b ∷ put_queue a bs) (λ qs. Contains qs x)
    (λ _. later a (b ∷ bs) x (later b bs x (k, omega arith, is)))
    (λ _. later b (put_queue a bs) x (put_other a bs k x (omega arith) is))

pub in_order : (qs : List Queue) (k : ℕ) (x : Queue) → k < length qs → get_or qs k x ≡ x → Contains (by_receiver qs) x
in_order [] k x lt is = absurd (omega arith)
in_order (q ∷ qs) zero x lt is = subst (λ w. Contains (put_queue q (by_receiver qs)) w) is (put_first q (by_receiver qs))
in_order (q ∷ qs) (suc k) x lt is =
    let rest = in_order qs k x (omega arith) is in
    put_other q (by_receiver qs) rest.0 x rest.1 rest.2

-- what a filter keeps is in the list, and passes
pub kept_of : {A : Type 0} (f : A → Bool) (xs : List A) → All (λ x. Contains xs x × (f x ≡ true)) (filter f xs)
kept_of f xs = λ k d lt. (All-filter f (Contains xs) xs (All-contains_itself xs) k d lt, filter_passes f xs k d lt)

-- what holds of each list holds of all together
pub all_flat : {A B : Type 0} (P : B → Type 0) (f : A → List B) (xs : List A) → All (λ x. All P (f x)) xs → All P (flat_map f xs)
all_flat P f [] h = All-nil P
all_flat P f (x ∷ xs) h = All-append P (f x) (flat_map f xs) (h 0 x (omega arith)) (all_flat P f xs (λ k d lt. h (suc k) d (omega arith)))

all_put : (P : Queue → Type 0) (a : Queue) (bs : List Queue) → P a → All P bs → All P (put_queue a bs)
all_put P a [] h k = All-cons P a [] h k
all_put P a (b ∷ bs) h k =
    cond_both (goes_before a b) (a ∷ b ∷ bs) (b ∷ put_queue a bs) (All P) (λ _. All-cons P a (b ∷ bs) h k)
    (λ _. All-cons P b (put_queue a bs) (k 0 b (omega arith)) (all_put P a bs h (λ i d lt. k (suc i) d (omega arith))))

pub all_in_order : (P : Queue → Type 0) (qs : List Queue) → All P qs → All P (by_receiver qs)
all_in_order P [] h = h
all_in_order P (q ∷ qs) h = all_put P q (by_receiver qs) (h 0 q (omega arith)) (all_in_order P qs (λ i d lt. h (suc i) d (omega arith)))

-- functions that agree at each element
pub same_map : (f g : ℕ → ℤ) (xs : List ℕ) → ((j : ℕ) → j < length xs → f (slice_index xs j) ≡ g (slice_index xs j)) → map f xs ≡ map g xs
same_map f g [] h = refl
same_map f g (x ∷ xs) h = ap (λ y. y ∷ map f xs) (h 0 (omega arith)) ∙ ap (λ ys. g x ∷ ys) (same_map f g xs (λ j lt. h (suc j) (omega arith)))

-- ---- a filter by places

map_either : {A : Type 0} (g : ℕ → A) (c : Bool) (b : ℕ) (ns : List ℕ) → cond c (g b ∷ map g ns) (map g ns) ≡ map g (cond c (b ∷ ns) ns)
map_either g true b ns = refl
map_either g false b ns = refl

pub filter_places : {A : Type 0} (f : A → Bool) (g : ℕ → A) (b : ℕ) (xs : List A) → ((i : ℕ) (d : A) → i < length xs → g (b + i) ≡ get_or xs i d)
    → filter f xs ≡ map g (filter (λ n. f (g n)) (range_with_len b (length xs)))
filter_places f g b [] h = refl
filter_places f g b (x ∷ xs) h =
    let at : b ≡ b + 0 = omega arith in
    let first : g b ≡ x = ap g at ∙ h 0 x (omega arith) in
    let rest = filter_places f g (b + 1) xs (λ i d lt. ap g (let e : (b + 1) + i ≡ b + suc i = omega arith in e) ∙ h (suc i) d (omega arith)) in
    ap (λ z. cond (f z) (z ∷ filter f xs) (filter f xs)) (sym first)
    ∙ ap (λ ys. cond (f (g b)) (g b ∷ ys) ys) rest
    ∙ map_either g (f (g b)) b (filter (λ n. f (g n)) (range_with_len (b + 1) (length xs)))

-- ---- the least of a number and those of a list

pub least_start : (a : ℕ) (xs : List ℕ) → fold min a xs ≤ a
least_start a [] = omega arith
least_start a (x ∷ xs) = omega (arith, least_start (min a x) xs)

pub least_each : (a : ℕ) (xs : List ℕ) (k d : ℕ) → k < length xs → fold min a xs ≤ get_or xs k d
least_each a [] k d lt = absurd (omega arith)
least_each a (x ∷ xs) zero d lt = omega (arith, least_start (min a x) xs)
least_each a (x ∷ xs) (suc k) d lt = least_each (min a x) xs k d (omega arith)

-- the least is one of them
pub least_reached : (n a : ℕ) (xs : List ℕ) → n ≤ a → ((k : ℕ) (d : ℕ) → k < length xs → n ≤ get_or xs k d) → n ≤ fold min a xs
least_reached n a [] h each = h
least_reached n a (x ∷ xs) h each =
    let first : n ≤ x = each 0 0 (omega arith) in
    least_reached n (min a x) xs (omega arith) (λ k d lt. each (suc k) d (omega arith))

-- a number is at most the least where it is at most each
pub least_is : (a : ℕ) (f : ℕ → ℕ) (xs : List ℕ) (n : ℕ) → (n ≤ fold min a (map f xs)) ↔ ((n ≤ a) × ((j : ℕ) → j < length xs → n ≤ f (slice_index xs j)))
least_is a f xs n = (
  λ h. (omega (arith, least_start a (map f xs)), λ j lt. omega (arith, least_each a (map f xs) j 0 (omega (arith, length-map xs f)), get_or-map f xs j 0 0 lt)),
  λ h. least_reached n a (map f xs) h.0 (λ k d lt. let l : k < length xs = omega (arith, length-map xs f) in omega (arith, h.1 k l, get_or-map f xs k 0 d l)),
)
