-- What stands at a number of an array.
use Rattle.std.specs.Prelude.{List, ℤ, pos, negsuc, slice_index_or}

-- the cell of a number, and 0 where there is none
abbrev pub numbered : List ℤ → ℤ → ℤ
numbered cells (pos k) = slice_index_or cells k (pos 0)
numbered cells (negsuc k) = pos 0
