-- The taps of one lane, and the sum of its gaps.
use Rattle.std.proofs.Common.{◌≡◌, ℕ, suc, ◌+◌, ◌/◌, ◌<◌, ◌≤◌, Bool, true, nat_eq, List, [], ◌∷◌, get_or, map, arith, refl, sym, ◌∙◌, ap, subst, ⊎_elim}
use Rattle.std.specs.Cmp.{nat_eq_equiv}
use Rattle.std.specs.List.{All, Contains, list_any, range_with_len, filter, sum}
use Rattle.std.proofs.Math.Nat.{div-mul-le_self, div-eq_of_lt}
use Rattle.std.proofs.lemmas.Bool.{cases_lt}
use Rattle.std.proofs.lemmas.Nat.{le-div}
use Rattle.std.proofs.lemmas.List.Elements.{All-nil, All-cons, All-weaker, All-map, All-contains, filter_passes, Contains-get_or}
use Rattle.std.proofs.lemmas.List.Kept.{IsStrictlyIncreasing-filter}
use Rattle.std.proofs.lemmas.Map.Views.{list_any-from_Contains, Contains-from_any}
use Rattle.reuse_chain.specs.Lanes.{age_in_cycles, IsTaps, greatest, taps_of, gaps_of}
use Rattle.reuse_chain.proofs.Members.{none, head, tail, mapped, filtered, ranged}
use Rattle.reuse_chain.proofs.Rising.{rises, range_rises, same, sum-gaps_of}

-- an older read has no lesser age in cycles
monotone : (lane unroll a b : ℕ) → 0 < unroll → a ≤ b → age_in_cycles lane unroll a ≤ age_in_cycles lane unroll b
monotone lane unroll a b h le =
    le-div ((lane + a) / unroll) (lane + b) unroll h (omega (arith, div-mul-le_self (lane + a) unroll))

all_le : (xs : List ℕ) → All (λ x. x ≤ greatest xs) xs
all_le [] = All-nil _
all_le (x ∷ xs) =
    All-cons (λ y. y ≤ greatest (x ∷ xs)) x xs (omega arith)
    (All-weaker (λ y. y ≤ greatest xs) (λ y. y ≤ greatest (x ∷ xs)) (λ y h. omega arith) xs (all_le xs))

has_greatest : (x : ℕ) (xs : List ℕ) → Contains (x ∷ xs) (greatest (x ∷ xs))
has_greatest x [] =
    let e : x ≡ greatest (x ∷ []) = omega arith in subst (λ (g : ℕ). Contains (x ∷ []) g) e (head x [])
has_greatest x (y ∷ ys) =
    ⊎_elim
    (λ lt.
    let e : greatest (y ∷ ys) ≡ greatest (x ∷ (y ∷ ys)) = omega arith in
    subst (λ (g : ℕ). Contains (x ∷ (y ∷ ys)) g) e (tail x (y ∷ ys) (greatest (y ∷ ys)) (has_greatest y ys)))
    (λ ge.
    let e : x ≡ greatest (x ∷ (y ∷ ys)) = omega arith in
    subst (λ (g : ℕ). Contains (x ∷ (y ∷ ys)) g) e (head x (y ∷ ys)))
    (cases_lt x (greatest (y ∷ ys)))

greatest_le : (xs : List ℕ) (m : ℕ) → All (λ x. x ≤ m) xs → greatest xs ≤ m
greatest_le [] m h = omega arith
greatest_le (x ∷ xs) m h =
    omega (arith, h 0 0 (omega arith), greatest_le xs m (λ k d below. h (suc k) d (omega arith)))

-- no age in cycles is past that of the greatest age
cycles_le : (ages : List ℕ) (lane unroll : ℕ) → 0 < unroll → All (λ t. t ≤ age_in_cycles lane unroll (greatest ages)) (map (age_in_cycles lane unroll) ages)
cycles_le ages lane unroll h =
    All-map (λ t. t ≤ age_in_cycles lane unroll (greatest ages)) (age_in_cycles lane unroll) ages
    (All-weaker (λ a. a ≤ greatest ages) (λ a. age_in_cycles lane unroll a ≤ age_in_cycles lane unroll (greatest ages))
    (λ a le. monotone lane unroll a (greatest ages) h le) ages (all_le ages))

equal : (x y : ℕ) → nat_eq x y ≡ true → x ≡ y
equal x y h = grind arith

pub taps_there : (ages : List ℕ) (lane unroll : ℕ) → 0 < unroll → IsTaps ages lane unroll (taps_of ages lane unroll)
unfolding taps_of
taps_there ages lane unroll h =
    let cycles : List ℕ = map (age_in_cycles lane unroll) ages in
    let test : ℕ → Bool = λ tap. list_any (nat_eq tap) (map (age_in_cycles lane unroll) ages) in
    let n : ℕ = age_in_cycles lane unroll (greatest ages) + 1 in
    record {
      rising = IsStrictlyIncreasing-filter test (range_with_len 0 n) (range_rises n);
      each = λ tap. (
        λ is. Contains-from_any equal tap cycles (All-contains (λ y. test y ≡ true) (filter test (range_with_len 0 n)) tap
            (filter_passes test (range_with_len 0 n)) is),
        λ has.
            let le : tap ≤ age_in_cycles lane unroll (greatest ages) = All-contains (λ t. t ≤ age_in_cycles lane unroll (greatest ages)) cycles tap
            (cycles_le ages lane unroll h) has in
            filtered test (range_with_len 0 n) tap (ranged n tap (omega arith)) (list_any-from_Contains nat_eq_equiv tap cycles has),
      );
    }

pub taps_one : (ages : List ℕ) (lane unroll : ℕ) (taps : List ℕ) → 0 < unroll → IsTaps ages lane unroll taps → taps ≡ taps_of ages lane unroll
taps_one ages lane unroll taps h is =
    let there : IsTaps ages lane unroll (taps_of ages lane unroll) = taps_there ages lane unroll h in
    same taps (taps_of ages lane unroll) (rises taps is.rising) (rises (taps_of ages lane unroll) there.rising) (λ z has. (there.each z).1 ((is.each z).0 has))
    (λ z has. (is.each z).1 ((there.each z).0 has))

nothing : (ts : List ℕ) → ((t : ℕ) → Contains ts t → ⊥) → ts ≡ []
nothing [] h = refl
nothing (t ∷ ts) h = absurd (h t (head t ts))

last_tap : (ages : List ℕ) (lane unroll : ℕ) (ts : List ℕ) → lane < unroll → IsTaps ages lane unroll ts
    → greatest ts ≡ age_in_cycles lane unroll (greatest ages)
last_tap [] lane unroll ts h is =
    let empty : ts ≡ [] = nothing ts (λ t has. none t ((is.each t).0 has)) in
    let few : lane + 0 < unroll = omega arith in
    ap greatest empty ∙ sym (div-eq_of_lt few)
last_tap (a ∷ ages) lane unroll ts h is =
    let top : ℕ = age_in_cycles lane unroll (greatest (a ∷ ages)) in
    let low : greatest ts ≤ age_in_cycles lane unroll (greatest (a ∷ ages)) = greatest_le ts (age_in_cycles lane unroll (greatest (a ∷ ages))) (λ k d below.
    All-contains (λ t. t ≤ age_in_cycles lane unroll (greatest (a ∷ ages))) (map (age_in_cycles lane unroll) (a ∷ ages)) (get_or ts k d)
    (cycles_le (a ∷ ages) lane unroll (omega arith)) ((is.each (get_or ts k d)).0 (Contains-get_or ts k d below))) in
    let high : age_in_cycles lane unroll (greatest (a ∷ ages))
    ≤ greatest ts = All-contains (λ t. t ≤ greatest ts) ts (age_in_cycles lane unroll (greatest (a ∷ ages))) (all_le ts)
    ((is.each (age_in_cycles lane unroll (greatest (a ∷ ages)))).1
    (mapped (age_in_cycles lane unroll) (a ∷ ages) (greatest (a ∷ ages)) (has_greatest a ages))) in
    omega arith

-- the gaps of one lane sum to the age in cycles of its oldest read
pub gaps_of_lane : (ages : List ℕ) (lane unroll : ℕ) → lane < unroll → sum (gaps_of (taps_of ages lane unroll)) ≡ age_in_cycles lane unroll (greatest ages)
gaps_of_lane ages lane unroll h =
    let is : IsTaps ages lane unroll (taps_of ages lane unroll) = taps_there ages lane unroll (omega arith) in
    sum-gaps_of (taps_of ages lane unroll) (rises (taps_of ages lane unroll) is.rising) ∙ last_tap ages lane unroll (taps_of ages lane unroll) h is
