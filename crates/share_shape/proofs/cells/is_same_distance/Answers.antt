use Rattle.std.proofs.Common.{◌≡◌, length, sym, ◌∙◌, ap, arith}
use Rattle.std.proofs.lemmas.Int.{ints, to_z-of_z}
use Rattle.share_shape.proofs.Offsets.{all_same, fails_here, other_length, passes_here, same_from}
use Rattle.share_shape.proofs.cells.is_same_distance.Goals as goal

pub returns-then-first-other : goal.returns-then-first-other
returns-then-first-other c =
    sym (other_length c.args.a.now c.args.first.now c.args.b.now c.args.other.now c.if-first-other.true)

pub returns-then-not-is_equal : goal.returns-then-not-is_equal
returns-then-not-is_equal c =
    fails_here c.args.a.now c.args.first.now c.args.b.now c.args.other.now c.loop-i.i c.if-first-other.false c.loop-i.invariant c.loop-i-test.true c.apart-here.result c.apart-there.result c.is_equal.result (grind (arith, to_z-of_z, ints)) (grind (arith, to_z-of_z, ints)) (grind (arith, to_z-of_z, ints)) c.if-not-is_equal.true

pub loop-i-preserved : goal.loop-i-preserved
loop-i-preserved c =
    passes_here c.args.a.now c.args.first.now c.args.b.now c.args.other.now c.loop-i.i c.if-first-other.false c.loop-i.invariant c.loop-i-test.true c.apart-here.result c.apart-there.result c.is_equal.result (grind (arith, to_z-of_z, ints)) (grind (arith, to_z-of_z, ints)) (grind (arith, to_z-of_z, ints)) c.if-not-is_equal.false

pub returns : goal.returns
returns c =
    let e : length c.args.first.now ≡ c.loop-i.i = omega arith in
    all_same c.args.a.now c.args.first.now c.args.b.now c.args.other.now c.if-first-other.false (ap (same_from c.args.a.now c.args.first.now c.args.b.now c.args.other.now) e ∙ c.loop-i.invariant)
