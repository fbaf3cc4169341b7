-- Which cells a firing is about, what a source sends in it and what a sink hands on. Firing k is, at each lane r below
-- the unroll factor, about the cell numbered unroll * k + r - delay; a lane whose cell isn't there, of n cells, is
-- padding.
use Rattle.std.specs.Prelude.{ℕ, ◌+◌, ◌-◌, ◌*◌, min, Bool, ◌&&◌, nat_le, nat_lt, if◌then◌else◌, List, map, take, drop, ℤ, pos, slice_index_or}
use Rattle.std.specs.List.{range_with_len}

-- how many of the n cells the firings before firing k are about
abbrev pub cells_before : (unroll delay n k : ℕ) → ℕ
cells_before unroll delay n k = min n (unroll * k - delay)

-- the cell of lane r is there
abbrev pub is_there : (unroll delay n k r : ℕ) → Bool
is_there unroll delay n k r = nat_le delay (unroll * k + r) && nat_lt (unroll * k + r - delay) n

-- what lane r sends: its cell, and 0 where it is padding
abbrev pub lane_of : (unroll delay n : ℕ) → List ℤ → (k r : ℕ) → ℤ
lane_of unroll delay n cells k r =
    if is_there unroll delay n k r then slice_index_or cells (unroll * k + r - delay) (pos 0) else pos 0

-- what the lanes of firing k send, in order, of these cells as far as they go
abbrev pub lanes_of : (unroll delay n : ℕ) → List ℤ → ℕ → List ℤ
lanes_of unroll delay n cells k = map (lane_of unroll delay n cells k) (range_with_len 0 unroll)

-- what firing k hands on of its lanes' values: those of the lanes whose cells are there, in order
abbrev pub handed : (unroll delay n k : ℕ) → List ℤ → List ℤ
handed unroll delay n k lanes =
    take (cells_before unroll delay n (k + 1) - cells_before unroll delay n k) (drop (delay - unroll * k) lanes)
