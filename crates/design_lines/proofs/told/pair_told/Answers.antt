use Rattle.std.proofs.Common.{◌≡◌, ℕ, ◌<◌, ◌^◌, List, [], ◌∷◌, ◌++◌, MatchOption, codes, subst, ◌∙◌}
use Rattle.design_lines.specs.Lines.{GoesOn}
use Rattle.design_lines.specs.machine.Reading.{two_numbered}
use Rattle.design_lines.proofs.told.pair_told.Goals as goal

pub returns : goal.returns
returns c =
    let P : List ℕ → Type 0 = λ f. MatchOption c.two_behind.result
    ((a b : ℕ) → a < 2 ^ 64 → b < 2 ^ 64 → GoesOn (two_numbered f (codes " need ") a b ∷ []) c.args.text.now → ⊥)
    (λ t. (t.first < 2 ^ 64) × (t.second < 2 ^ 64)
    × (c.args.text.now ≡ (two_numbered f (codes " need ") t.first t.second ++ codes "\n") ++ t.rest.now)) in
    subst P (c.deref.ensures.value ∙ c.in_ok-front.ensures) c.two_behind.ensures
