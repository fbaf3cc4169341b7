-- The laws of lanes.
use Rattle.std.specs.Prelude.{◌≡◌, ℕ, ◌<◌, List, sum}
use Rattle.reuse_chain.specs.Lanes.{age_in_cycles, IsTaps, greatest, taps_of, gaps_of, sum_of_all_gaps}

-- the taps of a lane are its taps
abbrev pub TapsAreThere : Type 0
TapsAreThere = (ages : List ℕ) (lane unroll : ℕ) → 0 < unroll → IsTaps ages lane unroll (taps_of ages lane unroll)

-- and no other list is
abbrev pub TapsAreOne : Type 0
TapsAreOne = (ages : List ℕ) (lane unroll : ℕ) (taps : List ℕ) → 0 < unroll → IsTaps ages lane unroll taps
    → taps ≡ taps_of ages lane unroll

-- the gaps of one lane sum to the age in cycles of its oldest read
abbrev pub GapsOfLane : Type 0
GapsOfLane = (ages : List ℕ) (lane unroll : ℕ) → lane < unroll
    → sum (gaps_of (taps_of ages lane unroll)) ≡ age_in_cycles lane unroll (greatest ages)

-- the gaps of all lanes together sum to the greatest age, whatever the unroll factor
abbrev pub GapsOfAllLanes : Type 0
GapsOfAllLanes = (ages : List ℕ) (unroll : ℕ) → 0 < unroll → sum_of_all_gaps ages unroll ≡ greatest ages
