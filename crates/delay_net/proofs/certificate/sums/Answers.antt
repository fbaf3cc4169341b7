use Rattle.std.proofs.Common.{ℕ, ◌+◌, ◌*◌, ◌<◌, ◌≤◌, ◌^◌, length, length-set, get_or, set, drop, arith, rules, pos, ap, ◌∙◌, subst}
use Rattle.std.proofs.lemmas.List.{get_or-replicate, length-replicate}
use Rattle.delay_net.specs.Limits.{most_tensors}
use Rattle.delay_net.specs.Certificate.{sum_at}
use Rattle.delay_net.specs.pieces.End.{tensor_at}
use Rattle.delay_net.proofs.Steps.{sum_each, sum_each_small, sum_at_done}
use Rattle.delay_net.proofs.certificate.sums.Goals as goal

pub loop-i-init : goal.loop-i-init
loop-i-init c = record {
  size = length-replicate {A = ℕ} most_tensors 0;
  told = λ tensor lt. ap (λ n. n + sum_at (tensor_at c.args.end) tensor c.reads-reads.result.now c.args.numbers.now)
      (get_or-replicate {A = ℕ} most_tensors tensor 0 0 lt) ∙ omega arith;
  small = λ tensor lt. omega (arith, get_or-replicate {A = ℕ} most_tensors tensor 0 0 lt);
}

pub loop-i-preserved : goal.loop-i-preserved
loop-i-preserved c =
    let reads = c.reads-reads.result.now in
    let numbers = c.args.numbers.now in
    let i = c.loop-i.i in
    let n = get_or numbers i 0 in
    let key = tensor_at c.args.end in
    let at = c.tensor.result in
    let table = c.loop-i.sums in
    let in_table : at < most_tensors = search rules in
    let sized : at < length table = rw c.loop-i.invariant.size in_table in
    let counted : i < length numbers = omega (arith, c.requires, ap length c.reads-reads.ensures.value) in
    record {
      size = length-set table at _ ∙ c.loop-i.invariant.size;
      told = λ tensor lt.
          ap (λ t. get_or (set table t (get_or table t 0 + n)) tensor 0 + sum_at key tensor (drop (i + 1) reads) (drop (i + 1) numbers)) c.tensor.ensures
          ∙ sum_each key reads numbers table i tensor _ (record { reader = 0; of = 0; offset = pos 0 }) c.loop-i-test.true counted
          (subst (λ t. t < length table) c.tensor.ensures sized) (c.loop-i.invariant.told tensor lt);
      small = λ tensor lt.
          let small : n ≤ 2 ^ 32 = search rules in
          let grown = sum_each_small table at n tensor (i * 2 ^ 32) sized (c.loop-i.invariant.small at in_table) (c.loop-i.invariant.small tensor lt) in
          omega arith;
    }

pub returns-clause-sums : goal.returns-clause-sums
returns-clause-sums c = λ tensor lt.
    sum_at_done (tensor_at c.args.end) tensor c.reads-reads.result.now c.args.numbers.now c.loop-i.i _ _ c.loop-i-test.false (c.loop-i.invariant.told tensor lt)
    ∙ ap (λ reads. sum_at (tensor_at c.args.end) tensor reads c.args.numbers.now) c.reads-reads.ensures.value
