-- The limit of a made net beside those of every net.
use Rattle.std.specs.Prelude.{ℕ}

-- a tensor of a made net reads at most so many times
abbrev pub most_each : ℕ
most_each = 32
