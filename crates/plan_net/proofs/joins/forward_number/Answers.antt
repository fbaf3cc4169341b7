use Rattle.std.proofs.Common.{arith}
use Rattle.net_shape.specs.machine.Places.{far_lane_begin, near_begin}
use Rattle.plan_net.proofs.Standing.{far_found, forward_within, lane_within, near_found}
use Rattle.plan_net.proofs.joins.forward_number.Goals as goal

pub index-requires : goal.index-requires
index-requires c =
    omega (
      arith,
      c.args.chart.now.nears.ok,
      lane_within c.args.layout.now c.unroll.ensures.plan c.args.tensor c.args.lane c.args.place c.unroll.result c.lane_place-all.result 0 c.lane_taps-taps.result.now
          c.requires.tensor c.requires.lane c.unroll.ensures.value c.lane_taps-taps.ensures.value c.lane_place-all.ensures (near_begin c.args.layout.now) c.args.chart.now.nears.items c.requires.chart.nears,
    )

pub overflow_cast-result : goal.overflow_cast-result
overflow_cast-result c =
    omega (
      arith,
      near_found c.args.layout.now c.unroll.ensures.plan c.args.tensor c.args.lane c.args.place c.unroll.result c.lane_place-all.result c.index.result.now c.lane_taps-taps.result.now
          c.requires.tensor c.requires.lane c.unroll.ensures.value c.lane_taps-taps.ensures.value c.lane_place-all.ensures c.args.chart.now.nears.items c.requires.chart.nears c.index.ensures c.requires.place
          c.if-taps-place-eq0.true,
      forward_within c.args.layout.now c.unroll.ensures.plan c.args.tensor c.args.lane c.args.place c.unroll.result c.lane_place-all.result 0 c.lane_taps-taps.result.now
          c.requires.tensor c.requires.lane c.unroll.ensures.value c.lane_taps-taps.ensures.value c.lane_place-all.ensures c.requires.place,
      c.requires.few,
    )

pub index-requires-else-taps-place-eq0 : goal.index-requires-else-taps-place-eq0
index-requires-else-taps-place-eq0 c =
    omega (
      arith,
      c.args.chart.now.tops.ok,
      lane_within c.args.layout.now c.unroll.ensures.plan c.args.tensor c.args.lane c.args.place c.unroll.result c.lane_place-all.result 0 c.lane_taps-taps.result.now
          c.requires.tensor c.requires.lane c.unroll.ensures.value c.lane_taps-taps.ensures.value c.lane_place-all.ensures (far_lane_begin c.args.layout.now) c.args.chart.now.tops.items c.requires.chart.tops,
    )

pub overflow_add-result : goal.overflow_add-result
overflow_add-result c =
    omega (
      arith,
      far_found c.args.layout.now c.unroll.ensures.plan c.args.tensor c.args.lane c.args.place c.unroll.result c.lane_place-all.result c.index-else-taps-place-eq0.result.now c.lane_taps-taps.result.now
          c.requires.tensor c.requires.lane c.unroll.ensures.value c.lane_taps-taps.ensures.value c.lane_place-all.ensures c.args.chart.now.tops.items c.requires.chart.tops c.index-else-taps-place-eq0.ensures
          c.requires.place c.if-taps-place-eq0.false,
      forward_within c.args.layout.now c.unroll.ensures.plan c.args.tensor c.args.lane c.args.place c.unroll.result c.lane_place-all.result 0 c.lane_taps-taps.result.now
          c.requires.tensor c.requires.lane c.unroll.ensures.value c.lane_taps-taps.ensures.value c.lane_place-all.ensures c.requires.place,
      c.requires.few,
    )

pub overflow_cast-result-else-taps-place-eq0 : goal.overflow_cast-result-else-taps-place-eq0
overflow_cast-result-else-taps-place-eq0 c =
    omega (
      arith,
      far_found c.args.layout.now c.unroll.ensures.plan c.args.tensor c.args.lane c.args.place c.unroll.result c.lane_place-all.result c.index-else-taps-place-eq0.result.now c.lane_taps-taps.result.now
          c.requires.tensor c.requires.lane c.unroll.ensures.value c.lane_taps-taps.ensures.value c.lane_place-all.ensures c.args.chart.now.tops.items c.requires.chart.tops c.index-else-taps-place-eq0.ensures
          c.requires.place c.if-taps-place-eq0.false,
      forward_within c.args.layout.now c.unroll.ensures.plan c.args.tensor c.args.lane c.args.place c.unroll.result c.lane_place-all.result 0 c.lane_taps-taps.result.now
          c.requires.tensor c.requires.lane c.unroll.ensures.value c.lane_taps-taps.ensures.value c.lane_place-all.ensures c.requires.place,
      c.requires.few,
    )

pub returns-then-taps-place-eq0 : goal.returns-then-taps-place-eq0
returns-then-taps-place-eq0 c =
    near_found c.args.layout.now c.unroll.ensures.plan c.args.tensor c.args.lane c.args.place c.unroll.result c.lane_place-all.result c.index.result.now c.lane_taps-taps.result.now
    c.requires.tensor c.requires.lane c.unroll.ensures.value c.lane_taps-taps.ensures.value c.lane_place-all.ensures c.args.chart.now.nears.items c.requires.chart.nears c.index.ensures c.requires.place
    c.if-taps-place-eq0.true

pub returns-else-taps-place-eq0 : goal.returns-else-taps-place-eq0
returns-else-taps-place-eq0 c =
    far_found c.args.layout.now c.unroll.ensures.plan c.args.tensor c.args.lane c.args.place c.unroll.result c.lane_place-all.result c.index-else-taps-place-eq0.result.now c.lane_taps-taps.result.now
    c.requires.tensor c.requires.lane c.unroll.ensures.value c.lane_taps-taps.ensures.value c.lane_place-all.ensures c.args.chart.now.tops.items c.requires.chart.tops c.index-else-taps-place-eq0.ensures
    c.requires.place c.if-taps-place-eq0.false
