-- The limits that contracts name.
use Rattle.std.specs.Prelude.{ℕ}

-- the most ids that are given
abbrev pub most_ids : ℕ
most_ids = 4294967295
