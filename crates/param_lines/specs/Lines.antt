-- The lines of a text, and the words of a line.
use Rattle.std.specs.Prelude.{ℕ, ◌==◌, List, [], ◌∷◌, map, if◌then◌else◌}
use Rattle.array_bytes.specs.Runs.{put_first, runs}

-- the lines of a text: each is ended by a line feed or by the end of the text
abbrev pub lines : List ℕ → List (List ℕ)
lines [] = []
lines (b ∷ bs) = if b == 10 then [] ∷ lines bs else put_first b (lines bs)

-- the words of each line: its runs of bytes that aren't white space
abbrev pub rows_of : List ℕ → List (List (List ℕ))
rows_of bytes = map runs (lines bytes)
