use Rattle.command_words.specs.Orders.{asked}
use Rattle.sodac_cli.proofs.printing.print_job.Goals as goal

pub returns-in-Ok-clause-runs : goal.returns-in-Ok-clause-runs
returns-in-Ok-clause-runs g c = λ told.
    c.print_lines-status.ensures.runs _ _ (asked c.args.order.now) _ _ c.requires.only c.requires.built
    (c.in-Ok.ensures.goes told)
