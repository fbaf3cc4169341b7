-- From a lane's first tap and the steps from each tap to the next: all of them together are its last tap.
use Rattle.std.proofs.Common.{◌≡◌, ℕ, zero, suc, ◌+◌, ◌-◌, ◌<◌, Bool, true, false, not, cond, eqb, nat_lt, max, List, [], ◌∷◌, ◌++◌, map, reverse, refl, sym, ◌∙◌, ap, subst, arith}
use Rattle.std.specs.List.{All, filter, range_with_len, sum}
use Rattle.std.proofs.lemmas.Bool.{le-ltb, lt-ltb}
use Rattle.std.proofs.lemmas.List.Elements.{recursion_from_All}
use Rattle.std.proofs.lemmas.List.FromFn.{sum_by-map-range_with_len_more}
use Rattle.delay_net.specs.Sums.{sum_below}
use Rattle.delay_net.specs.Windows.{age, at_least_0, storage_of}
use Rattle.delay_net.specs.declared.net.Read.{Read}
use Rattle.delay_net.proofs.CallerLemmas.{sum_below_same}
use Rattle.reuse_chain.specs.Lanes.{greatest, sum_of_all_gaps, taps_of, gaps_of}
use Rattle.reuse_chain.proofs.CallerLemmas.{gaps_of_all_lanes, Rises, sum-gaps_of}
use Rattle.net_shape.specs.Plans.{Plan, ages_of, taps_at}
use Rattle.net_shape.specs.Queues.{taps_above}
use Rattle.net_shape.proofs.Numbers.{taps_rise}
use Rattle.net_shape.proofs.Rising.{each_of, keep_all, reverse_cons}

-- how far the first of these taps is from a number
abbrev pub step_to : ℕ → List ℕ → ℕ
step_to from [] = 0
step_to from (t ∷ ts) = t - from

-- the step from a tap to the next
abbrev pub step : List ℕ → ℕ → ℕ
step ts a = step_to a (taps_above a ts)

-- the steps from some taps, added up
abbrev pub steps : List ℕ → List ℕ → ℕ
steps ts [] = 0
steps ts (a ∷ rest) = step ts a + steps ts rest

steps-append : (ts xs ys : List ℕ) → steps ts (xs ++ ys) ≡ steps ts xs + steps ts ys
steps-append ts [] ys = omega arith
steps-append ts (x ∷ xs) ys = omega (arith, steps-append ts xs ys)

pub steps-reverse : (ts xs : List ℕ) → steps ts (reverse xs) ≡ steps ts xs
steps-reverse ts [] = refl
steps-reverse ts (x ∷ xs) =
    ap (steps ts) (reverse_cons x xs) ∙ steps-append ts (reverse xs) (x ∷ []) ∙ omega (arith, steps-reverse ts xs)

by_test : (b : Bool) (n : ℕ) (x : ℕ) (ts ys zs : List ℕ) → n ≡ steps ts ys + steps ts zs → step ts x + n ≡ steps ts (cond b (x ∷ ys) ys) + steps ts (cond (not b) (x ∷ zs) zs)
by_test true n x ts ys zs e = omega arith
by_test false n x ts ys zs e = omega arith

pub steps_parts : (ts xs : List ℕ) (p : ℕ → Bool) → steps ts xs ≡ steps ts (filter p xs) + steps ts (filter (λ t. not (p t)) xs)
steps_parts ts [] p = refl
steps_parts ts (x ∷ xs) p = by_test (p x) (steps ts xs) x ts (filter p xs) (filter (λ t. not (p t)) xs) (steps_parts ts xs p)

-- a tap before these doesn't count
steps_later : (x : ℕ) (xs ys : List ℕ) → All (λ y. x < y) ys → steps (x ∷ xs) ys ≡ steps xs ys
steps_later x xs [] up = refl
steps_later x xs (y ∷ ys) up =
    let lt : x < y = up 0 y (omega arith) in
    let skip : taps_above y (x ∷ xs) ≡ taps_above y xs = ap (λ c. cond c (x ∷ taps_above y xs) (taps_above y xs)) (le-ltb y x (omega arith)) in
    omega (arith, ap (step_to y) skip, steps_later x xs ys (λ k d h. up (suc k) d (omega arith)))

-- the first tap and the steps from all are the last tap
pub steps_all : (ts : List ℕ) → Rises ts → step_to 0 ts + steps ts ts ≡ greatest ts
steps_all [] r = refl
steps_all (x ∷ xs) r =
    let here : taps_above x (x ∷ xs) ≡ xs = ap (λ c. cond c (x ∷ taps_above x xs) (taps_above x xs)) (le-ltb x x (omega arith))
    ∙ keep_all (λ y. nat_lt x y) xs (each_of (λ y. x < y) (λ y. nat_lt x y ≡ true) (λ y lt. lt-ltb x y lt) xs (recursion_from_All (λ y. x < y) xs r.0)) in
    omega (arith, ap (step_to x) here, steps_later x xs xs r.0, last x xs r.0, steps_all xs r.1)
  where
    last : (x : ℕ) (xs : List ℕ) → All (λ y. x < y) xs → x + step_to x xs + steps xs xs ≡ max x (step_to 0 xs + steps xs xs)
    last x [] up = omega arith
    last x (y ∷ ys) up = let lt : x < y = up 0 y (omega arith) in omega arith

-- sums over lanes
listed_sum : (n : ℕ) (f : ℕ → ℕ) → sum (map f (range_with_len 0 n)) ≡ sum_below n f
unfolding sum_below
listed_sum zero f = refl
listed_sum (suc n) f =
    let e : n + 1 ≡ suc n = omega arith in
    subst (λ (m : ℕ). sum (map f (range_with_len 0 m)) ≡ sum (map f (range_with_len 0 n)) + f n) e (sum_by-map-range_with_len_more (λ x. x) f 0 n n (omega arith))
    ∙ ap (λ s. s + f n) (listed_sum n f)

greatest_age : (delays : List ℕ) (v : ℕ) (reads : List Read) → greatest (map (λ r. at_least_0 (age delays r)) (filter (λ r. eqb r.of v) reads)) ≡ storage_of reads delays v
unfolding storage_of
greatest_age delays v [] = refl
greatest_age delays v (r ∷ reads) = by_cond (eqb r.of v) r reads (greatest_age delays v reads)
  where
    by_cond : (b : Bool) (r : Read) (reads : List Read) → greatest (map (λ r. at_least_0 (age delays r)) (filter (λ r. eqb r.of v) reads)) ≡ storage_of reads delays v
        → greatest (map (λ r. at_least_0 (age delays r)) (cond b (r ∷ filter (λ r. eqb r.of v) reads) (filter (λ r. eqb r.of v) reads)))
        ≡ cond b (max (at_least_0 (age delays r)) (storage_of reads delays v)) (storage_of reads delays v)
    by_cond true r reads e = ap (max (at_least_0 (age delays r))) e
    by_cond false r reads e = e

-- the storage of a tensor is the sum of what its lanes hold from the first cell to the last tap
pub spans_all : (p : Plan) (v : ℕ) → 0 < p.unroll → sum_below p.unroll (λ lane. step_to 0 (taps_at p v lane) + steps (taps_at p v lane) (taps_at p v lane)) ≡ storage_of p.reads p.delays v
unfolding taps_at sum_of_all_gaps
spans_all p v h =
    sum_below_same p.unroll _ (λ lane. sum (gaps_of (taps_of (ages_of p v) lane p.unroll)))
    (λ lane lt. steps_all (taps_at p v lane) (taps_rise p v lane h) ∙ sym (sum-gaps_of (taps_at p v lane) (taps_rise p v lane h)))
    ∙ sym (listed_sum p.unroll (λ lane. sum (gaps_of (taps_of (ages_of p v) lane p.unroll))))
    ∙ gaps_of_all_lanes (ages_of p v) p.unroll h
    ∙ greatest_age p.delays v p.reads
