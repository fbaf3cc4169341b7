-- What stands at the front of a list of bytes.
use Rattle.std.specs.Prelude.{ℕ, ◌==◌, List, [], ◌∷◌, if◌then◌else◌}
use Rattle.array_bytes.specs.Runs.{is_space}

-- the bytes before the first line feed
abbrev pub line_front : List ℕ → List ℕ
line_front [] = []
line_front (b ∷ bs) = if b == 10 then [] else b ∷ line_front bs

-- the first line feed and what follows it
abbrev pub line_rest : List ℕ → List ℕ
line_rest [] = []
line_rest (b ∷ bs) = if b == 10 then b ∷ bs else line_rest bs

-- what follows the white space that the bytes begin with
abbrev pub space_rest : List ℕ → List ℕ
space_rest [] = []
space_rest (b ∷ bs) = if is_space b then space_rest bs else b ∷ bs

-- the bytes before the first white space
abbrev pub run_front : List ℕ → List ℕ
run_front [] = []
run_front (b ∷ bs) = if is_space b then [] else b ∷ run_front bs

-- the first white space and what follows it
abbrev pub run_rest : List ℕ → List ℕ
run_rest [] = []
run_rest (b ∷ bs) = if is_space b then b ∷ bs else run_rest bs
