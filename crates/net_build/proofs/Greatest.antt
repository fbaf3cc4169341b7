-- The greatest of some numbers.
use Rattle.std.proofs.Common.{◌≡◌, ℕ, zero, suc, ◌≤◌, max, List, [], ◌∷◌, ◌++◌, slice_index, arith, ap, ◌∙◌}
use Rattle.reuse_chain.specs.Lanes.{greatest}

-- no number of a list is greater
pub each_within : (xs : List ℕ) (i : ℕ) → slice_index xs i ≤ greatest xs
each_within [] i = omega arith
each_within (x ∷ xs) zero = omega arith
each_within (x ∷ xs) (suc i) = omega (arith, each_within xs i)

-- one number more
pub greatest_more : (xs : List ℕ) (x : ℕ) → greatest (xs ++ x ∷ []) ≡ max x (greatest xs)
greatest_more [] x = omega arith
greatest_more (y ∷ ys) x = ap (max y) (greatest_more ys x) ∙ omega arith
