-- The pointwise least of two assignments of least storage is one.
use Rattle.std.proofs.Common.{◌≡◌, ℕ, zero, suc, ◌+◌, ◌*◌, ◌-◌, ◌≤◌, min, max, List, [], ◌∷◌, length, slice_index, get_or, refl, subst, ap, arith, ⊎_elim, pos, ◌≤ℤ◌}
use Rattle.std.specs.List.{All}
use Rattle.std.proofs.lemmas.Int.{ints}
use Rattle.std.proofs.Math.Nat.{mul-le-mul_left}
use Rattle.delay_net.specs.Sums.{sum_below}
use Rattle.delay_net.specs.Windows.{MeetsWindows, age, storage_of, total_storage}
use Rattle.delay_net.specs.declared.net.Read.{Read}
use Rattle.delay_net.proofs.CallerLemmas.{sum_below_up_to, sum_below-add, storage_of_is}
use Rattle.flow_solve.specs.LeastPlan.{HasLeastStorage, lesser_delays}

-- the pointwise greatest of two assignments
abbrev greater_delays : List ℕ → List ℕ → List ℕ
greater_delays [] others = others
greater_delays (delay ∷ delays) [] = delay ∷ delays
greater_delays (delay ∷ delays) (other ∷ others) = max delay other ∷ greater_delays delays others

pub lesser_at : (xs ys : List ℕ) (t : ℕ) → get_or (lesser_delays xs ys) t 0 ≡ min (get_or xs t 0) (get_or ys t 0)
lesser_at [] ys t = omega arith
lesser_at (x ∷ xs) [] t = omega arith
lesser_at (x ∷ xs) (y ∷ ys) zero = refl
lesser_at (x ∷ xs) (y ∷ ys) (suc t) = lesser_at xs ys t

greater_at : (xs ys : List ℕ) (t : ℕ) → get_or (greater_delays xs ys) t 0 ≡ max (get_or xs t 0) (get_or ys t 0)
greater_at [] ys t = omega arith
greater_at (x ∷ xs) [] t = omega arith
greater_at (x ∷ xs) (y ∷ ys) zero = refl
greater_at (x ∷ xs) (y ∷ ys) (suc t) = greater_at xs ys t

pub length-lesser : (xs ys : List ℕ) → length xs ≡ length ys → length (lesser_delays xs ys) ≡ length xs
length-lesser [] ys e = refl
length-lesser (x ∷ xs) [] e = omega arith
length-lesser (x ∷ xs) (y ∷ ys) e = omega (arith, length-lesser xs ys (omega arith))

length-greater : (xs ys : List ℕ) → length xs ≡ length ys → length (greater_delays xs ys) ≡ length xs
length-greater [] ys e = omega arith
length-greater (x ∷ xs) [] e = refl
length-greater (x ∷ xs) (y ∷ ys) e = omega (arith, length-greater xs ys (omega arith))

lesser_meets : (reads : List Read) (a b : List ℕ) → MeetsWindows reads a → MeetsWindows reads b → MeetsWindows reads (lesser_delays a b)
lesser_meets reads a b meets_a meets_b = λ k d lt.
    let r = get_or reads k d in
    let in_a = meets_a k d lt in
    let in_b = meets_b k d lt in
    let of = lesser_at a b r.of in
    let reader = lesser_at a b r.reader in
    omega (arith, ints)

greater_meets : (reads : List Read) (a b : List ℕ) → MeetsWindows reads a → MeetsWindows reads b → MeetsWindows reads (greater_delays a b)
greater_meets reads a b meets_a meets_b = λ k d lt.
    let r = get_or reads k d in
    let in_a = meets_a k d lt in
    let in_b = meets_b k d lt in
    let of = greater_at a b r.of in
    let reader = greater_at a b r.reader in
    omega (arith, ints)

-- a bound of the ages of a tensor's reads bounds its storage
pub storage_within : (reads : List Read) (delays : List ℕ) (t cells : ℕ) → All (λ r. r.of ≡ t → age delays r ≤ℤ pos cells) reads → storage_of reads delays t ≤ cells
storage_within reads delays t cells bound =
    ⊎_elim (λ none. omega arith)
    (λ some.
    let r = some.0 in
    let here : r.of ≡ t → age delays r ≤ℤ pos cells = subst (λ (q : Read). q.of ≡ t → age delays q ≤ℤ pos cells) some.1.2 (bound some.1.0 r some.1.1) in
    omega (arith, ints, here some.2, some.3))
    (storage_of_is reads delays t).reached

-- how far the storage of a tensor reaches: its delay and its storage
abbrev reach : List Read → List ℕ → ℕ → ℕ
reach reads delays t = slice_index delays t + storage_of reads delays t

lesser_storage : (reads : List Read) (a b : List ℕ) (t : ℕ)
    → storage_of reads (lesser_delays a b) t + slice_index (lesser_delays a b) t ≤ min (reach reads a t) (reach reads b t)
lesser_storage reads a b t =
    let lo = lesser_delays a b in
    let here = lesser_at a b t in
    let within = storage_within reads lo t (min (reach reads a t) (reach reads b t) - slice_index lo t) (λ k d lt of_t.
    let r = get_or reads k d in
    let in_a = (storage_of_is reads a t).bound k d lt of_t in
    let in_b = (storage_of_is reads b t).bound k d lt of_t in
    let reader = lesser_at a b r.reader in
    omega (arith, ints, ap (slice_index lo) of_t, ap (slice_index a) of_t, ap (slice_index b) of_t)) in
    omega arith

greater_storage : (reads : List Read) (a b : List ℕ) (t : ℕ)
    → storage_of reads (greater_delays a b) t + slice_index (greater_delays a b) t ≤ max (reach reads a t) (reach reads b t)
greater_storage reads a b t =
    let hi = greater_delays a b in
    let here = greater_at a b t in
    let within = storage_within reads hi t (max (reach reads a t) (reach reads b t) - slice_index hi t) (λ k d lt of_t.
    let r = get_or reads k d in
    let in_a = (storage_of_is reads a t).bound k d lt of_t in
    let in_b = (storage_of_is reads b t).bound k d lt of_t in
    let reader = greater_at a b r.reader in
    omega (arith, ints, ap (slice_index hi) of_t, ap (slice_index a) of_t, ap (slice_index b) of_t)) in
    omega arith

-- the least and the greatest together need no more than the two
both_storages : (reads : List Read) (a b : List ℕ) (t : ℕ)
    → storage_of reads (lesser_delays a b) t + storage_of reads (greater_delays a b) t ≤ storage_of reads a t + storage_of reads b t
both_storages reads a b t = omega (arith, lesser_storage reads a b t, greater_storage reads a b t, lesser_at a b t, greater_at a b t)

both_totals : (weights : List ℕ) (reads : List Read) (a b : List ℕ)
    → total_storage weights reads (lesser_delays a b) + total_storage weights reads (greater_delays a b)
    ≤ total_storage weights reads a + total_storage weights reads b
unfolding total_storage
both_totals weights reads a b =
    let n = length weights in
    let w : ℕ → ℕ = slice_index weights in
    let lo : ℕ → ℕ = storage_of reads (lesser_delays a b) in
    let hi : ℕ → ℕ = storage_of reads (greater_delays a b) in
    let in_a : ℕ → ℕ = storage_of reads a in
    let in_b : ℕ → ℕ = storage_of reads b in
    let each : sum_below n (λ t. w t * lo t + w t * hi t) ≤ sum_below n (λ t. w t * in_a t + w t * in_b t)
    = sum_below_up_to n _ _ (λ t lt. omega (arith, mul-le-mul_left (w t) (both_storages reads a b t))) in
    omega (arith, sum_below-add n (λ t. w t * lo t) (λ t. w t * hi t), sum_below-add n (λ t. w t * in_a t) (λ t. w t * in_b t))

pub lesser_is_least : (weights : List ℕ) (reads : List Read) (a b : List ℕ) → HasLeastStorage weights reads a → HasLeastStorage weights reads b
    → HasLeastStorage weights reads (lesser_delays a b)
lesser_is_least weights reads a b least_a least_b =
    let same : length a ≡ length b = omega (arith, least_a.assignment, least_b.assignment) in
    let above = least_a.least (greater_delays a b) (omega (arith, length-greater a b same, least_a.assignment))
    (greater_meets reads a b least_a.meets least_b.meets) in
    let equal = least_b.least a least_a.assignment least_a.meets in
    let both = both_totals weights reads a b in
    record {
      assignment = omega (arith, length-lesser a b same, least_a.assignment);
      meets = lesser_meets reads a b least_a.meets least_b.meets;
      least = λ others is meets. let here = least_a.least others is meets in omega arith;
    }
