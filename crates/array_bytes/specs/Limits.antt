-- The limits of texts.
use Rattle.std.specs.Prelude.{ℕ}

-- the bytes of a cell, at the most
abbrev pub most_run : ℕ
most_run = 64

-- the bytes that a text may have beside those of its cells at their longest
abbrev pub spare_bytes : ℕ
spare_bytes = 65536
