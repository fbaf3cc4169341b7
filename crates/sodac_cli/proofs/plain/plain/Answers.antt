use Rattle.std.proofs.Common.{ℕ, subst}
use Rattle.job_status.specs.Counts.{FileFaults}
use Rattle.sodac_cli.proofs.Permitted.{text_in_plain}
use Rattle.sodac_cli.proofs.plain.plain.Goals as goal

pub over-status-requires-clause-read : goal.over-status-requires-clause-read
over-status-requires-clause-read g c = λ told. (
  g.F.Files.given c.args.files.now,
  g.F.Files.store c.args.files.now,
  c.in-Ok.ensures.goes told,
)

pub returns-in-Ok-clause-runs : goal.returns-in-Ok-clause-runs
returns-in-Ok-clause-runs g c = λ told.
    c.over-status.ensures.runs told (g.F.Files.given c.args.files.now) (g.F.Files.store c.args.files.now)
    (c.in-Ok.ensures.goes told)

pub returns-in-Ok-clause-faults : goal.returns-in-Ok-clause-faults
returns-in-Ok-clause-faults g c =
    let P : ℕ → Type 0 = λ n. FileFaults n (g.F.Files.faults c.over-status.new.files) c.over-status.result in
    subst P c.in-Ok.ensures.kept c.over-status.ensures.faults

pub returns-in-Err-clause-runs : goal.returns-in-Err-clause-runs
returns-in-Err-clause-runs g c = λ told.
    c.in-Err.ensures.ends told c.requires.built

pub returns-in-Err-clause-allowed : goal.returns-in-Err-clause-allowed
returns-in-Err-clause-allowed g c = text_in_plain c.in-Err.status c.in-Err.ensures.of_text
