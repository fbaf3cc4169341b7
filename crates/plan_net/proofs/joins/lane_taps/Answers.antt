use Rattle.std.proofs.Common.{◌≡◌, ◌+◌, ◌*◌, ◌∙◌, ap, arith, get_or, subst, sym}
use Rattle.std.specs.List.Sorted.{IsStrictlyIncreasing}
use Rattle.net_shape.specs.Plans.{taps_at}
use Rattle.net_shape.proofs.CallerLemmas.{At}
use Rattle.plan_net.proofs.Standing.{lane_at, taps_increase}
use Rattle.plan_net.proofs.joins.lane_taps.Goals as goal

pub index-requires : goal.index-requires
index-requires c =
    let p = c.args.layout.now in
    let a : At c.args.chart.now.taps.items (c.args.tensor * p.unroll + c.args.lane) (taps_at p c.args.tensor c.args.lane) = lane_at p (taps_at p) c.args.chart.now.taps.items c.args.tensor c.args.lane
    c.requires.chart.taps c.requires.tensor c.requires.lane in
    let place : c.lane_place.result ≡ c.args.tensor * p.unroll + c.args.lane = c.lane_place.ensures ∙ ap (λ u. c.args.tensor * u + c.args.lane) c.unroll.ensures.value in
    omega (arith, a.within, place, c.args.chart.now.taps.ok)

told : (c : goal.After-as_slice) → c.as_slice.result.now ≡ taps_at c.args.layout.now c.args.tensor c.args.lane
told c =
    let p = c.args.layout.now in
    let a : At c.args.chart.now.taps.items (c.args.tensor * p.unroll + c.args.lane) (taps_at p c.args.tensor c.args.lane) = lane_at p (taps_at p) c.args.chart.now.taps.items c.args.tensor c.args.lane
    c.requires.chart.taps c.requires.tensor c.requires.lane in
    let place : c.lane_place.result ≡ c.args.tensor * p.unroll + c.args.lane = c.lane_place.ensures ∙ ap (λ u. c.args.tensor * u + c.args.lane) c.unroll.ensures.value in
    c.as_slice.ensures ∙ c.index.ensures ∙ ap (λ k. get_or c.args.chart.now.taps.items k c.index.result.now) place ∙ a.is c.index.result.now

pub returns-clause-value : goal.returns-clause-value
returns-clause-value c = told c

pub returns-clause-rising : goal.returns-clause-rising
returns-clause-rising c = subst IsStrictlyIncreasing (sym (told c)) (taps_increase c.args.layout.now c.args.tensor c.args.lane c.unroll.ensures.plan.lanes)
