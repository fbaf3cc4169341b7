-- Where a walk stands, and where it stands after a step.
use Rattle.std.proofs.Common.{◌≡◌, ◌≢◌, ℕ, zero, suc, ◌+◌, ◌-◌, ◌<◌, ◌≤◌, Bool, false, List, nat_lt, refl, sym, ◌∙◌, ap, arith, if◌then◌else◌, ℤ, pos, negsuc, ◌+ℤ◌}
use Rattle.std.specs.List.{list_all}
use Rattle.std.proofs.lemmas.Bool.{lt-ltb}
use Rattle.std.proofs.lemmas.Bool.Decides.{nat_tests}
use Rattle.std.proofs.lemmas.Int.{ints}
use Rattle.time_stages.specs.Margins.{at_least_none}
use Rattle.compute_modules.specs.declared.side.Side.{Side}
use Rattle.compute_modules.specs.declared.side.Spot.TheVariants.{Inside, Nowhere, Outside}
use Rattle.compute_modules.specs.pieces.Walks.{before, box, cells_of, keeps_side, number_at, placed, spot_in}
use Rattle.compute_modules.proofs.Sides.{cells_box, placed_box}

-- ---- where it stands

at_first : (i : ℕ) → number_at i 0 ≡ pos i
at_first i = omega (arith, ints)

pub spot_early : (ss : List Side) (i j : ℕ) → j ≢ 0 → (j ≢ 0 → i ≡ 0) → Nowhere ≡ spot_in ss (number_at i j)
spot_early ss i zero some one = absurd (some refl)
spot_early ss i (suc j) some one =
    let k : number_at i (suc j) ≡ negsuc j = omega (arith, ints, one some) in
    sym (ap (spot_in ss) k)

pub spot_past : (ss : List Side) (i j : ℕ) → j ≡ 0 → cells_of ss ≤ i → Nowhere ≡ spot_in (box ss) (number_at i j)
spot_past ss i j none le =
    let cells = cells_box ss in
    let past : nat_lt i (cells_of (box ss)) ≡ false = grind (arith, nat_tests, cells) in
    sym (ap (λ k. spot_in (box ss) (number_at i k)) none ∙ ap (spot_in (box ss)) (at_first i)
    ∙ ap (λ b. if b then (if list_all keeps_side (placed (box ss) i) then Inside else Outside) else Nowhere) past)

pub spot_there : (ss : List Side) (i j : ℕ) (b : Bool) → j ≡ 0 → i < cells_of ss → list_all keeps_side (placed ss i) ≡ b
    → (if b then Inside else Outside) ≡ spot_in (box ss) (number_at i j)
spot_there ss i j b none lt keeps =
    let cells = cells_box ss in
    let within : i < cells_of (box ss) = omega (arith, cells) in
    ap (λ c. if c then Inside else Outside) (sym keeps ∙ ap (list_all keeps_side) (sym (placed_box ss i)))
    ∙ sym (ap (λ k. spot_in (box ss) (number_at i k)) none ∙ ap (spot_in (box ss)) (at_first i)
    ∙ ap (λ c. if c then (if list_all keeps_side (placed (box ss) i) then Inside else Outside) else Nowhere) (lt-ltb i (cells_of (box ss)) within))

-- ---- a number, and a step

pub number_is : (z : ℤ) → number_at (at_least_none z) (before z) ≡ z
number_is (pos i) = omega (arith, ints)
number_is (negsuc i) = omega (arith, ints)

pub is_one : (z : ℤ) → before z ≢ 0 → at_least_none z ≡ 0
is_one (pos i) some = absurd (some refl)
is_one (negsuc i) some = refl

pub number_on : (i j step : ℕ) → number_at (i + (step - j)) (j - step) ≡ number_at i j +ℤ pos step
number_on i j step = omega (arith, ints)

pub still_one : (i j step : ℕ) → (j ≢ 0 → i ≡ 0) → j - step ≢ 0 → i + (step - j) ≡ 0
still_one i zero step one some = absurd (some (omega arith))
still_one i (suc j) step one some =
    let none : i ≡ 0 = one (λ e. absurd (omega (arith, e))) in
    omega (arith, none, some)
