use Rattle.std.proofs.Common.{◌∙◌, sym, arith}
use Rattle.std.proofs.lemmas.Bool.Decides.{nat_tests}
use Rattle.std.proofs.lemmas.Int.{ints, to_z-of_z}
use Rattle.soda_parse.proofs.Offsets.{far_more}
use Rattle.soda_parse.proofs.conditions.far_component.Goals as goal

pub loop-i-preserved : goal.loop-i-preserved
loop-i-preserved c =
    sym (far_more c.args.offsets.now c.args.left.now c.loop-i.i c.loop-i-test.true (grind (arith, ints, to_z-of_z, nat_tests))) ∙ c.loop-i.invariant
