-- Facts of the refusals.
use Rattle.std.specs.Prelude.{Result, Ok, Err}
use Rattle.soda_parse.specs.declared.reading.ParseFail.{ParseFail}
use Rattle.soda_parse.specs.declared.reading.ParseFail.TheVariants.{Refused, Memory}
use Rattle.soda_parse.specs.declared.refusal.Refusal.{Refusal}
use Rattle.soda_parse.specs.declared.refusal.Refusal.TheVariants.{Syntax}
use Rattle.soda_syntax.specs.declared.reading.SyntaxFail.{SyntaxFail}
use Rattle.soda_syntax.specs.declared.reading.SyntaxFail.TheVariants.{Refused as SyntaxRefused, Memory as SyntaxMemory}

-- a fact of the refusal, where there is one
abbrev pub IfRefused : {A : Type 0} → Result A ParseFail → (Refusal → Type 0) → Type 0
IfRefused (Ok a) fact = Unit {0}
IfRefused (Err (Refused r)) fact = fact r
IfRefused (Err Memory) fact = Unit {0}

-- the answer to a text whose statements were not read
abbrev pub unread : SyntaxFail → ParseFail
unread (SyntaxRefused line) = Refused (Syntax line)
unread SyntaxMemory = Memory
