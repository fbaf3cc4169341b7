-- The cells that a lane reads.
use Rattle.std.specs.Prelude.{ℕ, ◌+◌, List, [], ℤ, pos, ◌+ℤ◌, slice_index_or, unsigned_abs}

-- the cell of a tensor in a lane: lane 0 and offset 0 stand two cells behind the first one
abbrev pub cell_at : List (List ℤ) → ℕ → ℕ → List ℤ → ℤ
cell_at arrays lane t o =
    slice_index_or (slice_index_or arrays t []) (unsigned_abs (slice_index_or o 0 (pos 0) +ℤ pos (lane + 2))) (pos 0)
