use Rattle.std.proofs.Common.{◌∙◌, ap, get_or, max, sym, take}
use Rattle.std.proofs.lemmas.List.{take_more}
use Rattle.reuse_chain.specs.Lanes.{greatest}
use Rattle.net_build.proofs.Greatest.{greatest_more}
use Rattle.net_build.proofs.delays.greatest_of.Goals as goal

pub loop-number-preserved : goal.loop-number-preserved
loop-number-preserved c =
    let xs = c.args.numbers.now in
    let i = c.loop-number.number-index in
    c.max-greatest.ensures
    ∙ ap (max (get_or xs i 0)) c.loop-number.invariant
    ∙ sym (greatest_more (take i xs) (get_or xs i 0))
    ∙ ap greatest (sym (take_more xs i 0 c.loop-number-test.true))
