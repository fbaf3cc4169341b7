-- The params file that is written for given values.
use Rattle.std.specs.Prelude.{ℕ, List, [], ◌∷◌, ◌++◌, ℤ}
use Rattle.std.specs.Fmt.{signed_decimal}
use Rattle.soda_words.specs.IntType.{IsType}
use Rattle.soda_ir.specs.Points.{size}
use Rattle.soda_ir.specs.Program.{PlainParam}
use Rattle.soda_eval.specs.Runs.{IsArray}

-- values in decimal, each behind a blank
abbrev pub spaced : List ℤ → List ℕ
spaced [] = []
spaced (v ∷ vs) = 32 ∷ (signed_decimal v ++ spaced vs)

-- a line for each param: its name and its values
abbrev pub params_text : List PlainParam → List (List ℤ) → List ℕ
params_text [] vss = []
params_text (p ∷ ps) [] = []
params_text (p ∷ ps) (vs ∷ vss) = (p.name ++ spaced vs) ++ (10 ∷ params_text ps vss)

-- the values of all params one behind the other
abbrev pub in_order : List (List ℤ) → List ℤ
in_order [] = []
in_order (vs ∷ vss) = vs ++ in_order vss

-- one value in range for each place of each of these params
abbrev pub HaveValues : List PlainParam → List (List ℤ) → Type 0
HaveValues [] [] = Unit {0}
HaveValues [] (vs ∷ vss) = ⊥
HaveValues (p ∷ ps) [] = ⊥
HaveValues (p ∷ ps) (vs ∷ vss) = (IsType p.ty × IsArray p.ty (size p.sizes) vs) × HaveValues ps vss
