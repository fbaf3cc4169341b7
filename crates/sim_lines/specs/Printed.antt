-- The lines that a simulation prints.
use Rattle.std.specs.Prelude.{ℕ, List, ◌++◌, codes}
use Rattle.std.specs.Fmt.{decimal}

-- the line of a cycle: how many modules fired, and how many had a firing left and didn't fire
abbrev pub cycle_line : (cycle fired held : ℕ) → List ℕ
cycle_line cycle fired held =
    codes "cycle " ++ (decimal cycle ++ (codes " fired " ++ (decimal fired
    ++ (codes " held " ++ (decimal held ++ codes "\n")))))

-- the last lines: how many cycles there were, and the total storage in bits
abbrev pub end_lines : (cycles bits : ℕ) → List ℕ
end_lines cycles bits =
    codes "cycles " ++ (decimal cycles ++ (codes "\nstorage " ++ (decimal bits ++ codes "\n")))
