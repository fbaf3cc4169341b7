use Rattle.std.proofs.Common.{refl, pos, sym, ◌∙◌}
use Rattle.std.proofs.lemmas.List.{take_all}
use Rattle.std.proofs.lemmas.List.Elements.{All-more, All-same}
use Rattle.delay_net.specs.Windows.{MeetsWindow}
use Rattle.delay_net.proofs.timing.meets.Goals as goal

pub loop-read-preserved : goal.loop-read-preserved
loop-read-preserved c =
    All-more (MeetsWindow c.args.delays.now) c.reads-read-items.result.now c.loop-read.read-index
    (record { reader = 0; of = 0; offset = pos 0 }) c.loop-read-test.true c.loop-read.invariant (c.if-not-meets_window.ensures.0 refl)

pub returns : goal.returns
returns c =
    let all = take_all c.loop-read.read-index c.reads-read-items.result.now c.loop-read-test.false in
    (λ _. All-same (MeetsWindow c.args.delays.now) _ _ (sym c.reads-read-items.ensures.value ∙ sym all) c.loop-read.invariant, λ _. refl)
