use Rattle.param_lines.proofs.Near.{IsNear}
use Rattle.param_lines.proofs.number.near_number.Given as goal

abbrev pub invariant-loop-digit : goal.invariant-loop-digit
invariant-loop-digit l = IsNear l.digit-index l.number l.digits
