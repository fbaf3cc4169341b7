use Rattle.std.proofs.Common.{sym}
use Rattle.command_words.specs.Orders.{asked}
use Rattle.sodac_cli.proofs.compile.compile.Goals as goal

pub returns-in-Ok-clause-runs : goal.returns-in-Ok-clause-runs
returns-in-Ok-clause-runs g c = λ told.
    let a = asked c.args.order.now in
    c.over.ensures.runs told _ _ a (sym c.target_name.ensures) (record { mode = c.requires.mode; built = c.requires.built })
    (c.in-Ok.ensures.goes told)

pub returns-in-Ok-clause-prints : goal.returns-in-Ok-clause-prints
returns-in-Ok-clause-prints g c = λ told also.
    let a = asked c.args.order.now in
    c.over.ensures.prints also _ a c.requires.mode (c.in-Ok.ensures.goes told).program
