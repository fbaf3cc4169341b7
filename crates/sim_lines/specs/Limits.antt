-- The limits of what a simulation reads.
use Rattle.std.specs.Prelude.{ℕ}

-- the bytes of a stall file, at the most
abbrev pub most_stall_bytes : ℕ
most_stall_bytes = 1048576
