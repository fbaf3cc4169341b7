use Rattle.std.proofs.Common.{◌≡◌, ◌+◌, drop}
use Rattle.soda_ir.specs.Program.{plain}
use Rattle.soda_parse.specs.ProgramConditions.{circular_from}
use Rattle.soda_parse.proofs.conditions.first_unplaced.Given as goal

abbrev pub invariant-loop-i : goal.invariant-loop-i
invariant-loop-i l = circular_from (plain l.parts) (l.number + l.i) (drop l.i l.defined) ≡ circular_from (plain l.parts) l.number l.defined
