use Rattle.std.proofs.Common.{◌≡◌, map, drop}
use Rattle.soda_checks.specs.Conditions.{first_by}
use Rattle.soda_parse.specs.Meaning.{kernel_in}
use Rattle.soda_formula.specs.Statements.{plain_statement}
use Rattle.soda_parse.proofs.program.kernel_of.Given as goal

abbrev pub invariant-loop-statement : goal.invariant-loop-statement
invariant-loop-statement l =
    first_by kernel_in (map plain_statement (drop l.statement-index l.statements)) ≡ first_by kernel_in (map plain_statement l.statements)
