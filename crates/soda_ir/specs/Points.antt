-- How many cells an array has, and the linear offset of a vector: the first dimension changes fastest.
use Rattle.std.specs.Prelude.{ℕ, zero, suc, ◌*◌, List, [], ◌∷◌, ◌++◌, ℤ, pos, ◌+ℤ◌, ◌*ℤ◌}

-- how many cells an array has
abbrev pub size : List ℕ → ℕ
size [] = 1
size (n ∷ ns) = n * size ns

-- the linear offset of a vector
abbrev pub linear : List ℕ → List ℤ → ℤ
linear [] ds = pos 0
linear (n ∷ ns) [] = pos 0
linear (n ∷ ns) (d ∷ ds) = d +ℤ (pos n *ℤ linear ns ds)

-- the values at the first n numbers
abbrev pub listed : {A : Type 0} → (ℕ → A) → ℕ → List A
listed f zero = []
listed f (suc n) = listed f n ++ f n ∷ []
