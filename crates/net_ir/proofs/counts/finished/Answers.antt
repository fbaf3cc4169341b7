use Rattle.net_ir.proofs.Rings.{goes_on}
use Rattle.net_ir.proofs.counts.finished.Goals as goal

pub returns-clause-goes_on : goal.returns-clause-goes_on
returns-clause-goes_on c =
    λ orderly. goes_on c.args.net.now c.args.counts.now.firings c.all_done.ensures.network orderly c.args.counts.now.state c.all_done.ensures.lawful
