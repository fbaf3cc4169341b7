use Rattle.std.proofs.Common.{◌∙◌, arith}
use Rattle.std.proofs.lemmas.Int.{ints, to_z-of_z}
use Rattle.soda_parse.proofs.Offsets.{shifted_more, too_many}
use Rattle.soda_parse.proofs.formulas.offset_or_none.Goals as goal

pub returns-then-offsets-gt-MOST_DIMS : goal.returns-then-offsets-gt-MOST_DIMS
returns-then-offsets-gt-MOST_DIMS c = c.new-offset.ensures ∙ too_many c.args.offsets.now c.args.left.now c.if-offsets-gt-MOST_DIMS.true

pub loop-i-preserved : goal.loop-i-preserved
loop-i-preserved c =
    shifted_more c.loop-i.offset.items _ c.args.offsets.now c.args.left.now c.loop-i.i c.in-Some.near c.loop-i.invariant c.loop-i-test.true (grind (
      arith,
      to_z-of_z,
      ints,
    )) (grind (arith, to_z-of_z, ints)) (grind (arith, to_z-of_z, ints))
