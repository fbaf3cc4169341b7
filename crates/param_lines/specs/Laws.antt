-- What holds of params files, whatever reads them.
use Rattle.std.specs.Prelude.{◌⊎◌, ℕ, List, ℤ}
use Rattle.soda_ir.specs.Program.{PlainParam}
use Rattle.param_lines.specs.Params.{GivesParams, RefusesLine}

-- a file gives its values or is refused at a line
abbrev pub IsGivenOrRefused : List PlainParam → List ℕ → Type 0
IsGivenOrRefused ps bytes = ((values : List ℤ) × GivesParams ps bytes values) ⊎ ((line : ℕ) × RefusesLine ps bytes line)
