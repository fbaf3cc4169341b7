-- What stands before a cell of a text, by its place in its line.
use Rattle.std.specs.Prelude.{ℕ, Bool, ◌==◌, if◌then◌else◌, List, [], ◌∷◌}

-- nothing before the first cell, a line feed at the beginning of a line, else a blank
abbrev pub parting_at : Bool → ℕ → List ℕ
parting_at begun column = if begun then (if column == 0 then 10 ∷ [] else 32 ∷ []) else []
