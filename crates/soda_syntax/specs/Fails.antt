-- Facts of the refusals.
use Rattle.std.specs.Prelude.{ℕ, Result, Ok, Err}
use Rattle.soda_syntax.specs.declared.reading.SyntaxFail.{SyntaxFail}
use Rattle.soda_syntax.specs.declared.reading.SyntaxFail.TheVariants.{Refused, Memory}

-- a fact of the refused line, where one is told
abbrev pub IfRefused : {A : Type 0} → Result A SyntaxFail → (ℕ → Type 0) → Type 0
IfRefused (Ok a) fact = Unit {0}
IfRefused (Err (Refused line)) fact = fact line
IfRefused (Err Memory) fact = Unit {0}
