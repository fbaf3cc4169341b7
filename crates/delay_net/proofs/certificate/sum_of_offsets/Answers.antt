use Rattle.std.proofs.Common.{◌≡◌, get_or, arith, rules, pos, ap, ◌∙◌, ◌*ℤ◌, w64}
use mir.Val.{SFits}
use Rattle.std.proofs.lemmas.Int.{ints, to_z-of_z}
use Rattle.delay_net.proofs.Steps.{sum_of_offsets_step, sum_of_offsets_done}
use Rattle.delay_net.proofs.certificate.sum_of_offsets.Goals as goal

pub loop-i-preserved : goal.loop-i-preserved
loop-i-preserved c =
    let reads = c.args.reads.now in
    let numbers = c.args.numbers.now in
    let i = c.loop-i.i in
    let read = get_or reads i (record { reader = 0; of = 0; offset = pos 0 }) in
    let short : SFits w64 read.offset = search rules in
    let product : c.product-sum.result ≡ pos (get_or numbers i 0) *ℤ read.offset =
    c.product-sum.ensures.value ∙ ap (λ z. pos (get_or numbers i 0) *ℤ z) (to_z-of_z w64 read.offset short) in
    let step = sum_of_offsets_step reads numbers i (record { reader = 0; of = 0; offset = pos 0 }) c.loop-i-test.true (omega (arith, c.requires.one_each)) in
    record {
      told = omega
          (arith, ints, step, product, c.loop-i.invariant.told, c.loop-i.invariant.low, c.loop-i.invariant.high, c.product-sum.ensures.low, c.product-sum.ensures.high);
      low = omega (arith, ints, c.loop-i.invariant.low, c.loop-i.invariant.high, c.product-sum.ensures.low, c.product-sum.ensures.high);
      high = omega (arith, ints, c.loop-i.invariant.low, c.loop-i.invariant.high, c.product-sum.ensures.low, c.product-sum.ensures.high);
    }

pub returns-clause-value : goal.returns-clause-value
returns-clause-value c =
    omega (arith, ints, c.loop-i.invariant.told, sum_of_offsets_done c.args.reads.now c.args.numbers.now c.loop-i.i c.loop-i-test.false)
