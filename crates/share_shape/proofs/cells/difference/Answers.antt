use Rattle.std.proofs.Common.{length, sym, ◌∙◌, ap, arith}
use Rattle.std.proofs.lemmas.Int.{ints, to_z-of_z}
use Rattle.share_shape.proofs.Offsets.{empty, moved_next}
use Rattle.share_shape.proofs.cells.difference.Goals as goal

pub loop-i-init : goal.loop-i-init
loop-i-init c = (c.new-made.ensures ∙ sym (empty c.args.offset.now), ap length c.new-made.ensures)

pub loop-i-preserved : goal.loop-i-preserved
loop-i-preserved c =
    moved_next c.args.offset.now c.args.first.now c.loop-i.made.items c.push.new.self.items c.loop-i.i c.in-Some.d c.loop-i.invariant.0 c.loop-i.invariant.1 c.loop-i-test.true (grind (
      arith,
      to_z-of_z,
      ints,
    )) (grind (arith, to_z-of_z, ints))
