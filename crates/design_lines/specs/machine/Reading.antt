-- Pieces of lines, as the reader takes them.
use Rattle.std.specs.Prelude.{ℕ, zero, suc, Bool, false, not, ◌==◌, List, [], ◌∷◌, ◌++◌, Option, Some, None, option_map, if◌then◌else◌}
use Rattle.std.specs.Fmt.{decimal}
use Rattle.soda_words.specs.Names.{is_digit}

-- a text that is there and begins with no digit
abbrev pub begins_apart : List ℕ → Bool
begins_apart [] = false
begins_apart (b ∷ bs) = not (is_digit b)

-- words that end with two numbers, with a text between them
abbrev pub two_numbered : (front between : List ℕ) (a b : ℕ) → List ℕ
two_numbered front between a b = front ++ (decimal a ++ (between ++ decimal b))

-- how many bytes the first so many lines have with their line feeds, if there are as many
abbrev pub line_bytes : (lines : ℕ) → List ℕ → Option ℕ
line_bytes zero text = Some 0
line_bytes (suc n) [] = None
line_bytes (suc n) (b ∷ bs) = option_map suc (line_bytes (if b == 10 then n else suc n) bs)
