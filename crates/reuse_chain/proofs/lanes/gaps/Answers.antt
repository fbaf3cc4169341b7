use Rattle.std.proofs.Common.{◌≡◌, ◌+◌, ◌-◌, [], ◌∷◌, ◌++◌, take, get_or, arith}
use Rattle.reuse_chain.specs.Lanes.{gaps_of}
use Rattle.reuse_chain.proofs.Rising.{last_or, last_or_le, gaps_of_more, last_or_more}
use Rattle.reuse_chain.proofs.lanes.gaps.Goals as goal

pub overflow_sub-tap : goal.overflow_sub-tap
overflow_sub-tap c =
    omega (arith, c.loop-tap.invariant.1, last_or_le c.args.taps.now c.loop-tap.tap-index c.requires c.loop-tap-test.true)

pub loop-tap-preserved : goal.loop-tap-preserved
loop-tap-preserved c =
    let more : gaps_of (take (c.loop-tap.tap-index + 1) c.args.taps.now)
    ≡ gaps_of (take c.loop-tap.tap-index c.args.taps.now) ++
    (get_or c.args.taps.now c.loop-tap.tap-index 0 - last_or 0 (take c.loop-tap.tap-index c.args.taps.now))
    ∷ [] = gaps_of_more c.args.taps.now c.loop-tap.tap-index c.loop-tap-test.true in
    let last : last_or 0 (take (c.loop-tap.tap-index + 1) c.args.taps.now)
    ≡ get_or c.args.taps.now c.loop-tap.tap-index 0 = last_or_more c.args.taps.now c.loop-tap.tap-index c.loop-tap-test.true in
    let pushed = c.in_ok-push.ensures.items in
    let was = c.loop-tap.invariant.0 in
    let before = c.loop-tap.invariant.1 in
    (cc (more, pushed, was, before), cc (last))
