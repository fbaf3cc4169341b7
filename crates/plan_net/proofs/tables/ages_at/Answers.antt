use Rattle.std.proofs.Common.{◌≡◌, ◌<◌, [], ◌∙◌, ap, All, arith, get_or, length, map, subst, sym, List, ℕ}
use Rattle.std.proofs.lemmas.List.{get_or_default, length-map, take_all}
use Rattle.std.proofs.lemmas.List.Elements.{All-get_or, All-push}
use Rattle.net_shape.specs.Plans.{Plan, age_of}
use Rattle.net_shape.specs.Queues.{read_at}
use Rattle.plan_net.specs.machine.Tables.{AreReads, reads_among}
use Rattle.plan_net.proofs.Standing.{reads_known}
use Rattle.plan_net.proofs.Steps.{ages_are, ages_more}
use Rattle.plan_net.proofs.tables.ages_at.Goals as goal
use Rattle.reuse_chain.specs.Limits.{age_end}

numbers_are : (p : Plan) (v : ℕ) (readings : List (List ℕ)) (one lent : List ℕ) → v < length p.kinds → AreReads p (length p.reads) readings → one ≡ get_or readings v one → lent ≡ one
    → lent ≡ reads_among p v (length p.reads)
numbers_are p v readings one lent h r e g = g ∙ e ∙ get_or_default readings v one [] (omega (arith, r.whole)) ∙ r.each v h

known : (p : Plan) (v i : ℕ) (ns : List ℕ) → ns ≡ reads_among p v (length p.reads) → i < length ns → get_or ns i 0 < length p.reads
known p v i ns e lt = All-get_or (λ n. n < length p.reads) ns i 0 lt (subst (All (λ n. n < length p.reads)) (sym e) (reads_known p v (length p.reads)))

pub bounds-all-number : goal.bounds-all-number
bounds-all-number c =
    let p = c.args.layout.now in
    let is = numbers_are p c.args.tensor c.args.readings.now c.index-readings-tensor.result c.as_slice-numbers.result.now c.requires.known c.requires.those c.index-readings-tensor.is c.as_slice-numbers.ensures in
    let lt : get_or c.as_slice-numbers.result.now c.loop-number.number-index 0 < length p.reads = known p c.args.tensor c.loop-number.number-index c.as_slice-numbers.result.now is c.loop-number-test.true in
    omega (arith, ap length c.ages-all.ensures.value, length-map p.reads (age_of p), lt)

pub loop-number-preserved : goal.loop-number-preserved
loop-number-preserved c =
    let p = c.args.layout.now in
    let is = numbers_are p c.args.tensor c.args.readings.now c.index-readings-tensor.result c.as_slice-numbers.result.now c.requires.known c.requires.those c.index-readings-tensor.is c.as_slice-numbers.ensures in
    let lt : get_or c.as_slice-numbers.result.now c.loop-number.number-index 0 < length p.reads = known p c.args.tensor c.loop-number.number-index c.as_slice-numbers.result.now is c.loop-number-test.true in
    let below : get_or c.as_slice-numbers.result.now c.loop-number.number-index 0 < length c.ages-all.result.now = omega (arith, ap length c.ages-all.ensures.value, length-map p.reads (age_of p), lt) in
    record {
      told = ages_more p c.as_slice-numbers.result.now c.ages-all.result.now c.loop-number.ages.items c.push.new.self.items c.loop-number.number-index c.loop-number-test.true c.ages-all.ensures.value lt
          c.loop-number.invariant.told c.in_ok-push.ensures.items;
      short = subst (All (λ age. age < age_end)) (sym c.in_ok-push.ensures.items) (All-push (λ age. age < age_end) c.loop-number.ages.items _ c.loop-number.invariant.short
          (c.ages-all.ensures.short (get_or c.as_slice-numbers.result.now c.loop-number.number-index 0) 0 below));
    }

pub returns-clause-value : goal.returns-clause-value
returns-clause-value c =
    let p = c.args.layout.now in
    let is = numbers_are p c.args.tensor c.args.readings.now c.index-readings-tensor.result c.as_slice-numbers.result.now c.requires.known c.requires.those c.index-readings-tensor.is c.as_slice-numbers.ensures in
    c.loop-number.invariant.told
    ∙ ap (map (λ n. age_of p (read_at p n))) (take_all c.loop-number.number-index c.as_slice-numbers.result.now c.loop-number-test.false ∙ is)
    ∙ ages_are p c.args.tensor
