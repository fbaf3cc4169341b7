use Rattle.soda_parse.proofs.Values.{IsMultiplied}
use Rattle.soda_parse.proofs.conditions.add_values.Given as goal

abbrev pub invariant-loop-size : goal.invariant-loop-size
invariant-loop-size l = IsMultiplied l.before l.product l.size-index l.sizes
