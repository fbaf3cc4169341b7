use Rattle.std.proofs.Common.{map, string_bytes}
use Rattle.clap.specs.Simple.{app_of}
use Rattle.command_words.proofs.Parsed.{rows, taken, untaken}
use Rattle.command_words.proofs.command.parse.Goals as goal

pub returns-in-Ok-clause-taken : goal.returns-in-Ok-clause-taken
returns-in-Ok-clause-taken c =
    taken (app_of c.in_ok-command.command) (map string_bytes c.args.words.now) c.in_ok-command.ensures c.in-Ok.ensures.kinds

pub returns-in-Ok-clause-rows : goal.returns-in-Ok-clause-rows
returns-in-Ok-clause-rows c =
    let words = map string_bytes c.args.words.now in
    rows (app_of c.in_ok-command.command) words c.in_ok-command.ensures c.in-Ok.matches c.in-Ok.ensures.matches

pub returns-in-Err-clause-usage : goal.returns-in-Err-clause-usage
returns-in-Err-clause-usage c = λ e.
    let words = map string_bytes c.args.words.now in
    untaken (app_of c.in_ok-command.command) words c.in_ok-command.ensures (λ t. c.failure.ensures (cc e) (c.in-Err.ensures.passes t))
