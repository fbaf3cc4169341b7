-- The definitions at small numbers.
use Rattle.std.proofs.Common.{◌≡◌, [], ◌∷◌, refl}
use Rattle.reuse_chain.specs.Lanes.{taps_of, gaps_of, sum_of_all_gaps}

two_lanes : taps_of (0 ∷ 1 ∷ 2 ∷ []) 1 2 ≡ 0 ∷ 1 ∷ []
unfolding taps_of
two_lanes = refl

sixteen_lanes : taps_of (4000 ∷ 2000 ∷ 0 ∷ []) 5 16 ≡ 0 ∷ 125 ∷ 250 ∷ []
unfolding taps_of
sixteen_lanes = refl

three_gaps : gaps_of (0 ∷ 125 ∷ 250 ∷ []) ≡ 0 ∷ 125 ∷ 125 ∷ []
three_gaps = refl

all_lanes : sum_of_all_gaps (7 ∷ 3 ∷ 0 ∷ []) 4 ≡ 7
unfolding sum_of_all_gaps taps_of
all_lanes = refl
