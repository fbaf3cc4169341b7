-- The box of all points of the extents, and the points of its cell numbers: the first dimension changes fastest.
use Rattle.std.specs.Prelude.{ℕ, ◌/◌, ◌%◌, Bool, true, false, ◌&&◌, List, [], ◌∷◌, ℤ, pos, ◌+ℤ◌, int_lt, int_le}

-- the point lies in the box
abbrev pub in_box : List ℕ → List ℤ → Bool
in_box [] [] = true
in_box [] (d ∷ ds) = false
in_box (n ∷ ns) [] = false
in_box (n ∷ ns) (d ∷ ds) = int_le (pos 0) d && int_lt d (pos n) && in_box ns ds

-- the point of a cell number
abbrev pub point : List ℕ → ℕ → List ℤ
point [] i = []
point (n ∷ ns) i = pos (i % n) ∷ point ns (i / n)

-- a point moved by an offset
abbrev pub moved : List ℤ → List ℤ → List ℤ
moved [] es = es
moved (d ∷ ds) [] = []
moved (d ∷ ds) (e ∷ es) = (d +ℤ e) ∷ moved ds es
