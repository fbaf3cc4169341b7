use Rattle.std.proofs.Common.{◌≡◌, ◌∙◌, ap, arith, get_or, length, reverse, sym}
use Rattle.std.proofs.lemmas.Result.{on_ok_weaker}
use Rattle.net_shape.specs.Plans.{taps_at}
use Rattle.plan_net.proofs.Standing.{forward_whole}
use Rattle.plan_net.proofs.joins.push_forward.Goals as goal

pub returns : goal.returns
returns c =
    let p = c.args.layout.now in
    let taps : c.lane_taps.result.now ≡ taps_at p c.args.lane.0 c.args.lane.1 = c.lane_taps.ensures.value in
    on_ok_weaker c.push_held.result (λ e. forward_whole p c.requires.plan c.args.lane.0 c.args.lane.1 c.args.tap c.args.from c.tap_place-place.result c.args.queues.now.items c.push_link.new.queues.items
    c.push_held.new.queues.items (reverse c.deref.result.now) (omega (arith, c.tap_place-place.ensures.within, ap length taps)) (ap (λ ts. get_or ts c.tap_place-place.result 0) (sym taps) ∙ c.tap_place-place.ensures.is)
    c.requires.from c.in_ok-push_link.ensures (ap reverse c.deref.ensures.value ∙ c.in_ok-held.ensures) e) c.push_held.ensures
