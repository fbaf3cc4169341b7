-- Facts of the refusals.
use Rattle.std.specs.Prelude.{ℕ, Result, Ok, Err}
use Rattle.soda_formula.specs.declared.reading.FormulaFail.{FormulaFail}
use Rattle.soda_formula.specs.declared.reading.FormulaFail.TheVariants.{Wrong, Memory}

-- a fact of the number of the wrong token, where one is told
abbrev pub IfWrong : {A : Type 0} → Result A FormulaFail → (ℕ → Type 0) → Type 0
IfWrong (Ok a) fact = Unit {0}
IfWrong (Err (Wrong k)) fact = fact k
IfWrong (Err Memory) fact = Unit {0}
