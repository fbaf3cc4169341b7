use Rattle.std.proofs.Common.{◌≡◌, ◌∙◌, ap, arith, get_or, pos}
use Rattle.delay_net.specs.declared.net.Read.{Read}
use Rattle.net_shape.specs.Queues.{read_at}
use Rattle.plan_net.proofs.Standing.{reader_found, reader_within}
use Rattle.plan_net.proofs.joins.reader_number.Goals as goal

pub index-requires : goal.index-requires
index-requires c =
    let p = c.args.layout.now in
    let d : Read = record { reader = 0; of = 0; offset = pos 0 } in
    let reader : (get_or c.reads.result.now c.args.number d).reader ≡ (read_at p c.args.number).reader = ap (λ rs. (get_or rs c.args.number d).reader) c.reads.ensures.value in
    omega (arith, c.args.chart.now.begins.ok, reader_within p c.reads.ensures.plan c.args.number (get_or c.reads.result.now c.args.number d).reader c.args.chart.now.begins.items c.requires.number c.requires.chart.begins reader)

pub overflow_add-result : goal.overflow_add-result
overflow_add-result c =
    let p = c.args.layout.now in
    let d : Read = record { reader = 0; of = 0; offset = pos 0 } in
    let reader : (get_or c.reads.result.now c.args.number d).reader ≡ (read_at p c.args.number).reader = ap (λ rs. (get_or rs c.args.number d).reader) c.reads.ensures.value in
    let r = reader_found p c.reads.ensures.plan c.args.lane c.args.number c.args.sum c.from.result c.index.result.now
    (get_or c.reads.result.now c.args.number d).reader c.args.chart.now.begins.items c.requires.number c.requires.chart.begins reader c.index.ensures c.requires.sum (c.from.ensures ∙ c.unroll.ensures.value) in
    omega (arith, r.1, r.2, c.requires.few)

pub overflow_cast-result : goal.overflow_cast-result
overflow_cast-result c =
    let p = c.args.layout.now in
    let d : Read = record { reader = 0; of = 0; offset = pos 0 } in
    let reader : (get_or c.reads.result.now c.args.number d).reader ≡ (read_at p c.args.number).reader = ap (λ rs. (get_or rs c.args.number d).reader) c.reads.ensures.value in
    let r = reader_found p c.reads.ensures.plan c.args.lane c.args.number c.args.sum c.from.result c.index.result.now
    (get_or c.reads.result.now c.args.number d).reader c.args.chart.now.begins.items c.requires.number c.requires.chart.begins reader c.index.ensures c.requires.sum (c.from.ensures ∙ c.unroll.ensures.value) in
    omega (arith, r.1, r.2, c.requires.few)

pub returns : goal.returns
returns c =
    let p = c.args.layout.now in
    let d : Read = record { reader = 0; of = 0; offset = pos 0 } in
    let reader : (get_or c.reads.result.now c.args.number d).reader ≡ (read_at p c.args.number).reader = ap (λ rs. (get_or rs c.args.number d).reader) c.reads.ensures.value in
    let r = reader_found p c.reads.ensures.plan c.args.lane c.args.number c.args.sum c.from.result c.index.result.now
    (get_or c.reads.result.now c.args.number d).reader c.args.chart.now.begins.items c.requires.number c.requires.chart.begins reader c.index.ensures c.requires.sum (c.from.ensures ∙ c.unroll.ensures.value) in
    r.1
