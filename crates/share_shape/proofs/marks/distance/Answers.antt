use Rattle.std.proofs.Common.{arith}
use Rattle.std.proofs.lemmas.Int.{ints, to_z-of_z}
use Rattle.share_shape.proofs.Alike.{apart_next, apart_none}
use Rattle.share_shape.proofs.marks.distance.Goals as goal

pub loop-i-init : goal.loop-i-init
loop-i-init c = apart_none c.args.to.now

pub loop-i-preserved : goal.loop-i-preserved
loop-i-preserved c =
    apart_next c.args.from.now c.args.to.now c.loop-i.i c.loop-i.mark c.mixed-mark.result c.apart.result c.loop-i-test.true c.loop-i.invariant (grind (arith, to_z-of_z, ints)) (grind (arith, to_z-of_z, ints))
