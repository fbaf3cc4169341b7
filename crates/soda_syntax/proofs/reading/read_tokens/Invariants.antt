use Rattle.std.proofs.Common.{◌≤◌, ◌-◌, length, drop, map}
use Rattle.soda_formula.specs.Statements.{plain_statement}
use Rattle.soda_syntax.proofs.Chain.{Reads}
use Rattle.soda_syntax.proofs.reading.read_tokens.Given as goal

abbrev pub invariant-loop-at : goal.invariant-loop-at
invariant-loop-at l = record {
  within : l.at ≤ length l.tokens;
  reads : Reads l.tokens (map plain_statement l.found.items) (drop l.at l.tokens);
}

abbrev pub decreases-loop-at : goal.decreases-loop-at
decreases-loop-at l = length l.tokens - l.at
