use Rattle.soda_parse.proofs.Offsets.{IsShifted}
use Rattle.soda_parse.proofs.formulas.offset_or_none.Given as goal

abbrev pub invariant-loop-i : goal.invariant-loop-i
invariant-loop-i l = IsShifted l.offset.items l.i l.offsets l.left
