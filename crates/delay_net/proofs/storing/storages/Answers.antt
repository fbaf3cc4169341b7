use Rattle.std.proofs.Common.{◌+◌, drop, get_or, max, ℕ, ◌<◌, length-set, arith, rules, pos, ap, ◌∙◌, set}
use Rattle.std.proofs.lemmas.List.{get_or-replicate, length-replicate}
use Rattle.delay_net.specs.Limits.{most_tensors}
use Rattle.delay_net.specs.Windows.{storage_of}
use Rattle.delay_net.proofs.Steps.{storage_each, storage_done}
use Rattle.delay_net.proofs.storing.storages.Goals as goal

pub loop-read-init : goal.loop-read-init
loop-read-init c = record {
  size = length-replicate {A = ℕ} most_tensors 0;
  told = λ tensor lt. ap (λ x. max x (storage_of c.reads-read-items.result.now c.args.delays.now tensor)) (get_or-replicate most_tensors tensor 0 0 lt)
      ∙ omega arith;
}

pub loop-read-preserved : goal.loop-read-preserved
loop-read-preserved c =
    let reads = c.reads-read-items.result.now in
    let read = get_or reads c.loop-read.read-index (record { reader = 0; of = 0; offset = pos 0 }) in
    let in_table : read.of < most_tensors = search rules in
    record {
      size = length-set c.loop-read.greatest read.of c.max.result ∙ c.loop-read.invariant.size;
      told = λ tensor lt. ap (λ n. max (get_or (set c.loop-read.greatest read.of n) tensor 0)
          (storage_of (drop (c.loop-read.read-index + 1) reads) c.args.delays.now tensor)) c.max.ensures
          ∙ storage_each reads c.args.delays.now c.loop-read.greatest c.loop-read.read-index c.age_of.result tensor _
          (record { reader = 0; of = 0; offset = pos 0 }) c.loop-read-test.true (rw c.loop-read.invariant.size in_table) c.age_of.ensures
          (c.loop-read.invariant.told tensor lt);
    }

pub returns-clause-each : goal.returns-clause-each
returns-clause-each c = λ tensor lt.
    storage_done c.reads-read-items.result.now c.args.delays.now tensor c.loop-read.read-index _ _ c.loop-read-test.false (c.loop-read.invariant.told tensor lt)
    ∙ ap (λ reads. storage_of reads c.args.delays.now tensor) c.reads-read-items.ensures.value
