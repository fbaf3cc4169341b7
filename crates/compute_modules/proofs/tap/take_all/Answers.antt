use Rattle.std.proofs.Common.{◌≡◌, length, map, ◌∙◌, arith, pos}
use Rattle.std.proofs.lemmas.List.{get_or_default, length-map, same_lists}
use Rattle.compute_modules.specs.pieces.Taps.{taken}
use Rattle.compute_modules.proofs.tap.take_all.Goals as goal

pub returns : goal.returns
returns c =
    let all = map (taken c.args.ports.now) c.args.taps.now in
    let many : length c.loop-i.values ≡ length all = omega (arith, length-map c.args.taps.now (taken c.args.ports.now)) in
    same_lists c.loop-i.values all many
    (λ k d lt. get_or_default c.loop-i.values k d (pos 0) lt ∙ c.loop-i.invariant k (omega arith) ∙ get_or_default all k (pos 0) d (omega arith))
