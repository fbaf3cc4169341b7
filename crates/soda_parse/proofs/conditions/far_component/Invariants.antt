use Rattle.std.proofs.Common.{◌≡◌, map, drop}
use Rattle.std.specs.Prelude.{unsigned_abs}
use Rattle.soda_parse.specs.ProgramConditions.{first_past}
use Rattle.soda_parse.specs.Meaning.{shifted}
use Rattle.soda_parse.proofs.conditions.far_component.Given as goal

abbrev pub invariant-loop-i : goal.invariant-loop-i
invariant-loop-i l =
    first_past 32768 (map unsigned_abs (shifted (drop l.i l.offsets) (drop l.i l.left))) ≡ first_past 32768 (map unsigned_abs (shifted l.offsets l.left))
