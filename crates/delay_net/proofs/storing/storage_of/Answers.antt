use Rattle.std.proofs.Common.{drop, ap, sym, ◌∙◌, subst, max, ◌+◌, ◌≡◌}
use Rattle.delay_net.specs.Windows.{storage_of, IsGreatestAge}
use Rattle.delay_net.proofs.Steps.{storage_taken, storage_passed, storage_done}
use Rattle.delay_net.proofs.CallerLemmas.{storage_of_is}
use Rattle.delay_net.proofs.storing.storage_of.Goals as goal
use Rattle.delay_net.proofs.storing.storage_of.Goals.{then-read-tensor, else-read-tensor}

pub loop-read-preserved : goal.loop-read-preserved
loop-read-preserved c =
    let reads = c.reads-read-items.result.now in
    let delays = c.args.delays.now in
    let rest = storage_of (drop (c.loop-read.read-index + 1) reads) delays c.args.tensor in
    elim c.if-read-tensor.branch [
      | then-read-tensor w ↦ ap (λ n. max n rest) (w.greatest-is ∙ w.max-greatest.ensures)
          ∙ storage_taken reads delays c.args.tensor c.loop-read.read-index c.loop-read.greatest _ w.age_of.result _ c.loop-read-test.true w.if-read-tensor.true w.age_of.ensures c.loop-read.invariant
      | else-read-tensor w ↦ ap (λ n. max n rest) w.greatest-is
          ∙ storage_passed reads delays c.args.tensor c.loop-read.read-index c.loop-read.greatest _ _ c.loop-read-test.true w.if-read-tensor.false c.loop-read.invariant
    ]

told : (c : goal.After-loop-read) → c.loop-read.greatest ≡ storage_of c.args.net.now.reads c.args.delays.now c.args.tensor
told c =
    storage_done c.reads-read-items.result.now c.args.delays.now c.args.tensor c.loop-read.read-index c.loop-read.greatest _ c.loop-read-test.false c.loop-read.invariant
    ∙ ap (λ reads. storage_of reads c.args.delays.now c.args.tensor) c.reads-read-items.ensures.value

pub returns-clause-value : goal.returns-clause-value
returns-clause-value c = told c

pub returns-clause-greatest : goal.returns-clause-greatest
returns-clause-greatest c =
    subst (IsGreatestAge c.args.net.now.reads c.args.delays.now c.args.tensor) (sym (told c))
    (storage_of_is c.args.net.now.reads c.args.delays.now c.args.tensor)
