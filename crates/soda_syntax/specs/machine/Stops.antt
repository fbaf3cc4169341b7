-- Facts of what stops the reading of one statement.
use Rattle.std.specs.Prelude.{ℕ, Result, Ok, Err}
use Rattle.soda_syntax.specs.declared.stop.Stop.{Stop}
use Rattle.soda_syntax.specs.declared.stop.Stop.TheVariants.{Wrong, Memory}

-- a fact of the number of the wrong token, where one is told
abbrev pub IfStopped : {A : Type 0} → Result A Stop → (ℕ → Type 0) → Type 0
IfStopped (Ok a) fact = Unit {0}
IfStopped (Err (Wrong k)) fact = fact k
IfStopped (Err Memory) fact = Unit {0}
