use Rattle.std.proofs.Common.{Option, Err, sym, ap, subst}
use Rattle.command_words.specs.declared.order.OrderFail.{OrderFail}
use Rattle.command_words.specs.Orders.{Asked}
use Rattle.job_status.specs.declared.status.Status.TheVariants as is
use Rattle.sodac_cli.specs.Correct.{Runs}
use Rattle.sodac_cli.specs.Printed.{Prints}
use Rattle.sodac_cli.specs.Work.{asked_of}
use Rattle.sodac_cli.proofs.Silent.{prints_nothing}
use Rattle.sodac_cli.proofs.Unasked.{memory_unasked, untaken_runs}
use Rattle.sodac_cli.proofs.top.job.Goals as goal

pub returns-in-Ok-clause-runs : goal.returns-in-Ok-clause-runs
returns-in-Ok-clause-runs g c = λ told.
    let P : Option Asked → Type 0 = λ o. Runs (g.F.Files.given c.args.files.now) (g.F.Files.store c.args.files.now) o
    (g.F.Files.given c.run-status.new.files) (g.F.Files.store c.run-status.new.files) c.run-status.result in
    subst P (sym c.in-Ok.ensures.found) (c.run-status.ensures.runs told)

pub returns-in-Ok-clause-prints : goal.returns-in-Ok-clause-prints
returns-in-Ok-clause-prints g c = λ told also.
    let P : Option Asked → Type 0 = λ o. Prints (g.F.Files.store c.args.files.now).bytes o (g.S.Sink.taken c.args.out.now)
    (g.S.Sink.taken c.run-status.new.out) c.run-status.result in
    subst P (sym c.in-Ok.ensures.found) (c.run-status.ensures.prints told also)

pub returns-in-Err-Usage-clause-runs : goal.returns-in-Err-Usage-clause-runs
returns-in-Err-Usage-clause-runs g c = λ told.
    untaken_runs _ _ _ (c.in-Err-Usage.ensures.usage (ap (λ (e : OrderFail). Err e) c.in-Err-Usage.field-0-is))

pub returns-in-Err-Usage-clause-prints : goal.returns-in-Err-Usage-clause-prints
returns-in-Err-Usage-clause-prints g c = λ told also.
    prints_nothing _ (asked_of c.args.words.now) _ is.Usage (λ e. absurd (cc)) (λ e. absurd (cc)) (λ k f e. absurd (cc))

pub returns-in-Err-Memory-clause-runs : goal.returns-in-Err-Memory-clause-runs
returns-in-Err-Memory-clause-runs g c = λ told. memory_unasked _ _ _

pub returns-in-Err-Memory-clause-prints : goal.returns-in-Err-Memory-clause-prints
returns-in-Err-Memory-clause-prints g c = λ told also.
    prints_nothing _ (asked_of c.args.words.now) _ is.Memory (λ e. absurd (cc)) (λ e. absurd (cc)) (λ k f e. absurd (cc))
