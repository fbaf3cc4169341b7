-- Taps and gaps of a lane.
use Rattle.std.specs.Prelude.{ℕ, ◌+◌, ◌-◌, ◌/◌, ◌↔◌, nat_eq, max, List, [], ◌∷◌, map, filter, sum, Contains}
use Rattle.std.specs.List.{list_any, range_with_len}
use Rattle.std.specs.List.Sorted.{IsStrictlyIncreasing}

-- the age in cycles of a read of this age in cells, at this lane of what is read, rounded down
abbrev pub age_in_cycles : ℕ → ℕ → ℕ → ℕ
age_in_cycles lane unroll age = (lane + age) / unroll

-- the taps rise strictly, and are the ages in cycles of the reads, and no others
pub record IsTaps (ages : List ℕ) (lane unroll : ℕ) (taps : List ℕ) : Type 0 where
  pub rising : IsStrictlyIncreasing taps
  pub each : (tap : ℕ) → Contains taps tap ↔ Contains (map (age_in_cycles lane unroll) ages) tap

-- the greatest age, and 0 where there is none
abbrev pub greatest : List ℕ → ℕ
greatest [] = 0
greatest (age ∷ ages) = max age (greatest ages)

-- the taps of a lane: of the numbers from 0 on, in order, those that are the age in cycles of a read
unfoldable pub taps_of : List ℕ → ℕ → ℕ → List ℕ
taps_of ages lane unroll =
    filter (λ tap. list_any (nat_eq tap) (map (age_in_cycles lane unroll) ages))
    (range_with_len 0 (age_in_cycles lane unroll (greatest ages) + 1))

-- each number less the one before it, where `before` stands before the first
abbrev pub differences : ℕ → List ℕ → List ℕ
differences before [] = []
differences before (tap ∷ taps) = (tap - before) ∷ differences tap taps

-- the gaps of a lane: its first tap, and then the successive differences
abbrev pub gaps_of : List ℕ → List ℕ
gaps_of [] = []
gaps_of (tap ∷ taps) = tap ∷ differences tap taps

-- the sum of the gaps of all lanes together
unfoldable pub sum_of_all_gaps : List ℕ → ℕ → ℕ
sum_of_all_gaps ages unroll = sum (map (λ lane. sum (gaps_of (taps_of ages lane unroll))) (range_with_len 0 unroll))
