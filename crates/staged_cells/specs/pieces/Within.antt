-- A number within the margins of a dimension.
use Rattle.std.specs.Prelude.{ℕ, Bool, ◌&&◌, pos, ◌+ℤ◌, int_le, int_lt}

-- the number keeps these margins of the two ends of a dimension of n points
abbrev pub is_within : (n low high c : ℕ) → Bool
is_within n low high c = int_le (pos low) (pos c) && int_lt (pos c +ℤ pos high) (pos n)
