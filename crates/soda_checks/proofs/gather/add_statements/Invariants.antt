use Rattle.soda_checks.proofs.Outlines.{IsOutlined}
use Rattle.soda_checks.proofs.gather.add_statements.Given as goal

abbrev pub invariant-loop-statement : goal.invariant-loop-statement
invariant-loop-statement l = IsOutlined l.initial.outline l.outline l.statement-index l.statements
