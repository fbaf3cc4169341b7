use Rattle.std.proofs.Common.{◌≡◌, ◌+◌, ◌*◌, ◌<◌, ◌++◌, [], ◌∷◌, ◌∙◌, ap, get_or, length, arith}
use Rattle.net_shape.specs.Lists.{joined}
use Rattle.net_shape.specs.Modules.{far_lane}
use Rattle.net_shape.specs.Plans.{taps_at}
use Rattle.net_shape.specs.machine.Places.{far_lane_begin}
use Rattle.net_shape.proofs.CallerLemmas.{At}
use Rattle.plan_net.proofs.Standing.{lane_at}
use Rattle.plan_net.proofs.Steps.{far_begun, far_piece, far_whole, more_joined, none_joined}
use Rattle.plan_net.proofs.order.push_far.Goals as goal

pub loop-lane-init : goal.loop-lane-init
loop-lane-init c = record { modules = none_joined _ _; tops = none_joined _ _ }

pub bounds-taps-lane_place : goal.bounds-taps-lane_place
bounds-taps-lane_place c =
    let p = c.args.layout.now in
    let below : c.loop-lane.lane < p.unroll = omega (arith, c.unroll-unroll.ensures.value, c.loop-lane-test.true) in
    let a : At c.args.taps.now (c.args.tensor * p.unroll + c.loop-lane.lane) (taps_at p c.args.tensor c.loop-lane.lane) = lane_at p (taps_at p) c.args.taps.now c.args.tensor c.loop-lane.lane c.requires.taps c.requires.known below in
    omega (arith, a.within, c.lane_place.ensures, ap (λ u. c.args.tensor * u) c.unroll-unroll.ensures.value)

pub loop-lane-preserved : goal.loop-lane-preserved
loop-lane-preserved c =
    let p = c.args.layout.now in
    let v = c.args.tensor in
    let lane = c.loop-lane.lane in
    let below : c.loop-lane.lane < p.unroll = omega (arith, c.unroll-unroll.ensures.value, c.loop-lane-test.true) in
    let a : At c.args.taps.now (c.args.tensor * p.unroll + c.loop-lane.lane) (taps_at p c.args.tensor c.loop-lane.lane) = lane_at p (taps_at p) c.args.taps.now v lane c.requires.taps c.requires.known below in
    let place : c.lane_place.result ≡ c.args.tensor * p.unroll + c.loop-lane.lane = c.lane_place.ensures ∙ ap (λ u. c.args.tensor * u + c.loop-lane.lane) c.unroll-unroll.ensures.value in
    let lent : c.as_slice.result.now ≡ taps_at p c.args.tensor c.loop-lane.lane =
    c.as_slice.ensures ∙ c.index-taps-lane_place.is ∙ ap (λ k. get_or c.args.taps.now k c.index-taps-lane_place.result) place ∙ a.is c.index-taps-lane_place.result in
    let whole : c.len.result ≡ length c.loop-lane.modules.items = omega (arith, c.len.ensures, c.loop-lane.modules.ok) in
    record {
      modules = more_joined (far_lane p v) c.args.modules.now.items c.loop-lane.modules.items c.push_far_lane.new.modules.items lane c.loop-lane.invariant.modules
          (c.in_ok-push_far_lane.ensures ∙ ap (λ ms. c.loop-lane.modules.items ++ ms) (far_piece p v lane c.as_slice.result.now c.unroll-unroll.ensures.plan.lanes lent));
      tops = more_joined (λ l. far_lane_begin p v l ∷ []) c.args.tops.now.items c.loop-lane.tops.items c.push.new.self.items lane c.loop-lane.invariant.tops
          (c.in_ok-push.ensures.items ∙ ap (λ n. c.loop-lane.tops.items ++ n ∷ []) (whole ∙ far_begun p v lane c.args.modules.now.items c.loop-lane.modules.items c.requires.begun c.loop-lane.invariant.modules));
    }

pub returns-clause-modules : goal.returns-clause-modules
returns-clause-modules c =
    let p = c.args.layout.now in
    let all : c.loop-lane.lane ≡ p.unroll = omega (arith, c.unroll-unroll.ensures.value, c.loop-lane-test.false, c.loop-lane.auto.lane-end) in
    c.loop-lane.invariant.modules ∙ ap (λ k. c.args.modules.now.items ++ joined (far_lane p c.args.tensor) k) all ∙ ap (λ ms. c.args.modules.now.items ++ ms) (far_whole p c.args.tensor)
