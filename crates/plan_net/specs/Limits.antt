-- The limit of networks.
use Rattle.std.specs.Prelude.{ℕ}

-- a network has at most this many modules
abbrev pub most_modules : ℕ
most_modules = 65536
