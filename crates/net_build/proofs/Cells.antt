-- How many cells an array has.
use Rattle.std.proofs.Common.{◌≡◌, ℕ, ◌^◌, ◌≤◌, min, List, [], ◌∷◌, ◌++◌, arith, ap, ◌∙◌}
use Rattle.soda_words.specs.Limits.{most_cells}
use Rattle.soda_ir.specs.Points.{size}

-- where they keep their limit they are as many as were counted
pub cells_are : (n rows : ℕ) (given extents : List ℕ) → n ≡ min (size (given ++ rows ∷ [])) (2 ^ 64) → given ≡ extents
    → size (extents ++ rows ∷ []) ≤ most_cells → n ≡ size (extents ++ rows ∷ [])
cells_are n rows given extents e same small =
    let all = e ∙ ap (λ ns. min (size (ns ++ rows ∷ [])) (2 ^ 64)) same in
    omega (arith, all, small)
