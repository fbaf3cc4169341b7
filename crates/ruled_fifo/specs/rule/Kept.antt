-- The rule that every step keeps, of what the queue holds and of what its passes know.
use Rattle.std.specs.Prelude.{◌≡◌, ℕ, ℤ, true, false, List, [], ◌++◌}
use mathlib.Core.Option.{some}
use lib.ListN.{get_elem?}
use Rattle.ruled_fifo.specs.declared.rule.View.{View}

-- the one pass that may send keeps what was sent
abbrev pub FitsSender : ℕ → List ℤ → ℕ → View → Type 0
FitsSender sender sent pass v = v.sends ≡ true → (pass ≡ sender) × (v.sent ≡ sent)

-- the one pass that may take keeps what was taken, and what was taken out since the two passes were joined
abbrev pub FitsTaker : ℕ → List ℤ → List ℤ → ℕ → View → Type 0
FitsTaker taker taken drained pass v = v.takes ≡ true → (pass ≡ taker) × (v.taken ≡ taken) × (v.drained ≡ drained)

-- while the two passes are apart nothing was taken out
abbrev pub FitsApart : View → Type 0
FitsApart v = v.takes ≡ true → v.sends ≡ false → v.drained ≡ []

-- what was sent is what was taken, then what the joined pass took out, then what the queue holds, the oldest first
abbrev pub Kept : List ℤ → List View → Type 0
Kept items views =
    (sender : ℕ) × (taker : ℕ) × (sent : List ℤ) × (taken : List ℤ) × (drained : List ℤ)
    × (sent ≡ taken ++ (drained ++ items))
    × ((pass : ℕ) (v : View) → get_elem? views pass ≡ some v
    → FitsSender sender sent pass v × FitsTaker taker taken drained pass v × FitsApart v)
