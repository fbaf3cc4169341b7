use Rattle.std.proofs.Common.{◌≡◌, ℕ, ◌<◌, ◌+◌, ◌*◌, ◌∙◌, List, ap, arith, get_or, length, slice_get}
use Rattle.std.specs.List.{filter}
use Rattle.std.proofs.lemmas.List.{get_or-map, length-map}
use Rattle.net_shape.specs.Plans.{Plan, taps_at}
use Rattle.net_shape.proofs.CallerLemmas.{At}
use Rattle.plan_net.specs.machine.Tables.{by_lane, is_at, reads_among, served_at}
use Rattle.plan_net.proofs.ByTap.{got_is, got_some}
use Rattle.plan_net.proofs.Standing.{lane_at}
use Rattle.plan_net.proofs.joins.tap_reads.Goals as goal

pub index-requires : goal.index-requires
index-requires c =
    let p = c.args.layout.now in
    let a : At c.args.chart.now.served.items (c.args.tensor * p.unroll + c.args.lane) (served_at p c.args.tensor c.args.lane) =
    lane_at p (served_at p) c.args.chart.now.served.items c.args.tensor c.args.lane c.requires.chart.served c.requires.tensor c.requires.lane in
    let place : c.lane_place.result ≡ c.args.tensor * p.unroll + c.args.lane = c.lane_place.ensures ∙ ap (λ u. c.args.tensor * u + c.args.lane) c.unroll.ensures.value in
    omega (arith, a.within, place, c.args.chart.now.served.ok)

many : (p : Plan) (v lane : ℕ) → length (served_at p v lane) ≡ length (taps_at p v lane)
many p v lane = length-map (taps_at p v lane) (λ tap. filter (is_at p lane tap) (reads_among p v (length p.reads)))

found : (p : Plan) (v lane place : ℕ) (xs : List (List (List ℕ))) (one : List (List ℕ)) → xs ≡ by_lane p (served_at p) → v < length p.kinds → lane < p.unroll
    → place ≡ v * p.unroll + lane → one ≡ get_or xs place one → one ≡ served_at p v lane
found p v lane place xs one e h k is g =
    g ∙ ap (λ n. get_or xs n one) is ∙ (lane_at p (served_at p) xs v lane e h k).is one

pub returns-in-Some : goal.returns-in-Some
returns-in-Some c =
    let p = c.args.layout.now in
    let v = c.args.tensor in
    let lane = c.args.lane in
    let one = found p v lane c.lane_place.result c.args.chart.now.served.items c.index.result.now c.requires.chart.served c.requires.tensor c.requires.lane
    (c.lane_place.ensures ∙ ap (λ u. v * u + lane) c.unroll.ensures.value) c.index.ensures in
    let numbers = c.in-Some.numbers.now in
    c.as_slice.ensures ∙ got_is (served_at p v lane) c.args.place numbers (c.in-Some.ensures.value ∙ ap (λ xs. slice_get xs c.args.place) one)
    ∙ get_or-map (λ tap. filter (is_at p lane tap) (reads_among p v (length p.reads))) (taps_at p v lane) c.args.place 0 numbers c.requires.place

pub returns-in-None : goal.returns-in-None
returns-in-None c =
    let p = c.args.layout.now in
    let v = c.args.tensor in
    let lane = c.args.lane in
    let one = found p v lane c.lane_place.result c.args.chart.now.served.items c.index.result.now c.requires.chart.served c.requires.tensor c.requires.lane
    (c.lane_place.ensures ∙ ap (λ u. v * u + lane) c.unroll.ensures.value) c.index.ensures in
    absurd (got_some (served_at p v lane) c.args.place (omega (arith, many p v lane, c.requires.place)) (c.in-None.ensures.value ∙ ap (λ xs. slice_get xs c.args.place) one))
