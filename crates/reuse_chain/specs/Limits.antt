-- The limits of lanes and ages, a name each.
use Rattle.std.specs.Prelude.{ℕ, ◌^◌}

-- there are at most this many lanes
abbrev pub most_lanes : ℕ
most_lanes = 64

-- an age in cells is below this
abbrev pub age_end : ℕ
age_end = 2 ^ 62
