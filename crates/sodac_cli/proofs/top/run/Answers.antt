use Rattle.command_words.specs.Orders.{asked}
use Rattle.sodac_cli.proofs.Unasked.{unbuilt_runs}
use Rattle.sodac_cli.proofs.top.run.Goals as goal

pub returns-then-not-is_built-clause-runs : goal.returns-then-not-is_built-clause-runs
returns-then-not-is_built-clause-runs g c = λ told.
    unbuilt_runs _ _ (asked c.args.order.now) (cc)
