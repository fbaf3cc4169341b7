use Rattle.soda_formula.proofs.Fronts.{IsRead}
use Rattle.soda_formula.proofs.reading.read_formula.Given as goal

abbrev pub invariant-loop-i : goal.invariant-loop-i
invariant-loop-i l = IsRead l.tokens l.i l.reader l.size
