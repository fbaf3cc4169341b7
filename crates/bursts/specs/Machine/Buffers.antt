-- What a buffer that is full at so many bytes writes, and what it keeps.
use Rattle.std.specs.Prelude.{ℕ, nat_le, if◌then◌else◌, List, [], length}

-- all of it where it is full, and else nothing
abbrev pub sent : ℕ → List ℕ → List ℕ
sent full bytes = if nat_le full (length bytes) then bytes else []

-- the rest
abbrev pub kept : ℕ → List ℕ → List ℕ
kept full bytes = if nat_le full (length bytes) then [] else bytes
