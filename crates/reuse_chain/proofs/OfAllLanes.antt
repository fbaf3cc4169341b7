-- The sum of the gaps of all lanes.
use Rattle.std.proofs.Common.{◌≡◌, ℕ, zero, suc, ◌+◌, ◌/◌, ◌<◌, List, map, arith, refl, ◌∙◌, ap, subst}
use Rattle.std.specs.List.{sum, range_with_len}
use Rattle.std.proofs.Math.Nat.{div-eq_of_lt, add-div_right}
use Rattle.std.proofs.lemmas.List.FromFn.{sum_by-map-range_with_len_more}
use Rattle.reuse_chain.specs.Lanes.{greatest, taps_of, gaps_of, sum_of_all_gaps}
use Rattle.reuse_chain.proofs.OfLane.{gaps_of_lane}

-- the sum of f over the numbers below n
total : ℕ → (ℕ → ℕ) → ℕ
total zero f = 0
total (suc n) f = total n f + f n

total_is : (n : ℕ) (f : ℕ → ℕ) → sum (map f (range_with_len 0 n)) ≡ total n f
unfolding total
total_is zero f = refl
total_is (suc n) f =
    let e : n + 1 ≡ suc n = omega arith in
    let more : sum (map f (range_with_len 0 (n + 1))) ≡ sum (map f (range_with_len 0 n))
    + f n = sum_by-map-range_with_len_more (λ x. x) f 0 n n (omega arith) in
    subst (λ (m : ℕ). sum (map f (range_with_len 0 m)) ≡ sum (map f (range_with_len 0 n)) + f n) e more ∙ ap (λ s. s + f n) (total_is n f)

total-same : (n : ℕ) (f g : ℕ → ℕ) → ((k : ℕ) → k < n → f k ≡ g k) → total n f ≡ total n g
unfolding total
total-same zero f g h = refl
total-same (suc n) f g h = omega (arith, total-same n f g (λ k below. h k (omega arith)), h n (omega arith))

-- to shift f by one gives up the first term and takes one more
total-shift : (n : ℕ) (f g : ℕ → ℕ) → ((k : ℕ) → g k ≡ f (suc k)) → total n g + f 0 ≡ total n f + f n
unfolding total
total-shift zero f g h = refl
total-shift (suc n) f g h = omega (arith, total-shift n f g h, h n)

total-zero : (n : ℕ) → total n (λ k. 0) ≡ 0
unfolding total
total-zero zero = refl
total-zero (suc n) = omega (arith, total-zero n)

-- the oldest read's ages in cycles, over all lanes, sum to its age
total_of_cycles : (unroll age : ℕ) → 0 < unroll → total unroll (λ lane. (lane + age) / unroll) ≡ age
total_of_cycles unroll zero h =
    total-same unroll (λ lane. (lane + 0) / unroll) (λ lane. 0) (λ lane below. let few : lane + 0 < unroll = omega arith in div-eq_of_lt few)
    ∙ total-zero unroll
total_of_cycles unroll (suc age) h =
    let moved : total unroll (λ lane. (lane + suc age) / unroll) + (0 + age) / unroll
    ≡ total unroll (λ lane. (lane + age) / unroll) + (unroll + age) / unroll = total-shift unroll (λ lane. (lane + age) / unroll)
    (λ lane. (lane + suc age) / unroll) (λ lane. let e : lane + suc age ≡ suc lane + age = omega arith in ap (λ (m : ℕ). m / unroll) e) in
    let first : (0 + age) / unroll ≡ age / unroll = ap (λ (m : ℕ). m / unroll) (let e : 0 + age ≡ age = omega arith in e) in
    let last : (unroll + age) / unroll ≡ age / unroll + 1 = ap (λ (m : ℕ). m / unroll) (let e : unroll + age ≡ age + unroll = omega arith in e)
    ∙ add-div_right age h in
    omega (arith, total_of_cycles unroll age h)

pub gaps_of_all_lanes : (ages : List ℕ) (unroll : ℕ) → 0 < unroll → sum_of_all_gaps ages unroll ≡ greatest ages
unfolding sum_of_all_gaps
gaps_of_all_lanes ages unroll h =
    total_is unroll (λ lane. sum (gaps_of (taps_of ages lane unroll)))
    ∙ total-same unroll (λ lane. sum (gaps_of (taps_of ages lane unroll))) (λ lane. (lane + greatest ages) / unroll)
    (λ lane below. gaps_of_lane ages lane unroll below) ∙ total_of_cycles unroll (greatest ages) h
