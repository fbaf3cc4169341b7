use Rattle.std.proofs.Common.{◌≡◌, ◌+◌, ◌*◌, ◌∙◌, ap, arith, get_or, subst, sym}
use Rattle.std.specs.List.Sorted.{IsStrictlyIncreasing}
use Rattle.net_shape.specs.Plans.{taps_at}
use Rattle.net_shape.proofs.CallerLemmas.{At}
use Rattle.plan_net.proofs.Standing.{lane_at, taps_increase}
use Rattle.plan_net.proofs.serving.taps_here.Goals as goal

pub bounds-taps-lane_place : goal.bounds-taps-lane_place
bounds-taps-lane_place c =
    let p = c.args.layout.now in
    let a : At c.args.taps.now (c.args.tensor * p.unroll + c.args.lane) (taps_at p c.args.tensor c.args.lane) =
    lane_at p (taps_at p) c.args.taps.now c.args.tensor c.args.lane c.requires.taps c.requires.tensor c.requires.lane in
    let place : c.lane_place.result ≡ c.args.tensor * p.unroll + c.args.lane = c.lane_place.ensures ∙ ap (λ u. c.args.tensor * u + c.args.lane) c.unroll.ensures.value in
    omega (arith, a.within, place)

told : (c : goal.After-as_slice) → c.as_slice.result.now ≡ taps_at c.args.layout.now c.args.tensor c.args.lane
told c =
    let p = c.args.layout.now in
    let a : At c.args.taps.now (c.args.tensor * p.unroll + c.args.lane) (taps_at p c.args.tensor c.args.lane) =
    lane_at p (taps_at p) c.args.taps.now c.args.tensor c.args.lane c.requires.taps c.requires.tensor c.requires.lane in
    let place : c.lane_place.result ≡ c.args.tensor * p.unroll + c.args.lane = c.lane_place.ensures ∙ ap (λ u. c.args.tensor * u + c.args.lane) c.unroll.ensures.value in
    let lent = c.index-taps-lane_place.result in
    c.as_slice.ensures ∙ c.index-taps-lane_place.is ∙ ap (λ k. get_or c.args.taps.now k lent) place ∙ a.is lent

pub returns-clause-value : goal.returns-clause-value
returns-clause-value c = told c

pub returns-clause-rising : goal.returns-clause-rising
returns-clause-rising c = subst IsStrictlyIncreasing (sym (told c)) (taps_increase c.args.layout.now c.args.tensor c.args.lane c.unroll.ensures.plan.lanes)
