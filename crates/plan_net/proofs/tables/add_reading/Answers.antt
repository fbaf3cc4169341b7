use Rattle.std.proofs.Common.{◌≡◌, ◌++◌, [], ◌∷◌, ◌∙◌, ap, arith, get_or, pos}
use Rattle.std.proofs.lemmas.List.{get_or_default}
use Rattle.std.proofs.lemmas.Result.{on_ok_weaker}
use Rattle.delay_net.specs.declared.net.Read.{Read}
use Rattle.net_shape.specs.Queues.{read_at}
use Rattle.plan_net.proofs.Steps.{reads_more}
use Rattle.plan_net.proofs.tables.add_reading.Goals as goal

pub returns : goal.returns
returns c =
    let p = c.args.layout.now in
    let d : Read = record { reader = 0; of = 0; offset = pos 0 } in
    let read : get_or c.reads.result.now c.args.number d ≡ read_at p c.args.number = ap (λ rs. get_or rs c.args.number d) c.reads.ensures.value in
    let of = ap (λ (r : Read). r.of) read in
    let before = c.reads.ensures.plan.of c.args.number d c.requires.known in
    let reader = c.reads.ensures.plan.reader c.args.number d c.requires.known in
    on_ok_weaker c.push.result (λ e. reads_more p c.args.number (get_or c.reads.result.now c.args.number d).of c.args.readings.now.items c.push.new.self (omega (arith, of, before, reader)) of
    (e ∙ ap (λ xs. xs ++ c.args.number ∷ []) (c.index_mut.ensures.value ∙ get_or_default c.args.readings.now.items (get_or c.reads.result.now c.args.number d).of _ [] (omega (arith, of, before, reader, c.requires.those.whole)))) c.requires.those) c.push.ensures.ok
