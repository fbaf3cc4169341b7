use Rattle.std.proofs.Common.{Err, Some, sym, ap, subst}
use Rattle.array_bytes.specs.declared.fault.CellFault.{CellFault}
use Rattle.job_status.specs.declared.status.Status.{Status}
use Rattle.sodac_cli.specs.Allowed.{AllowsPlain}
use Rattle.sodac_cli.specs.Correct.{Runs}
use Rattle.job_status.specs.Counts.{FileFaults}
use Rattle.sodac_cli.proofs.Gathered.{gathered, input_ends, input_next, input_opened, input_unread}
use Rattle.sodac_cli.proofs.InputFaults.{input_allowed, input_faults}
use Rattle.sodac_cli.proofs.gathering.read_input.Goals as goal

pub read_array-requires-clause-opened : goal.read_array-requires-clause-opened
read_array-requires-clause-opened g c = λ told.
    let r = c.requires.ready told in
    input_opened r.0 r.1 r.2 r.3 r.4 r.5 c.args.number c.args.id c.args.ty c.args.layout _ _ r.6

pub read_array-requires-clause-unread : goal.read_array-requires-clause-unread
read_array-requires-clause-unread g c = λ told.
    let r = c.requires.ready told in
    input_unread r.0 r.1 r.2 r.3 r.4 r.5 c.args.number c.args.id c.args.ty c.args.layout _ _ r.6

pub returns-in-Ok-clause-goes : goal.returns-in-Ok-clause-goes
returns-in-Ok-clause-goes g c = λ told first begun a p values arrays r.
    let e = c.in-Ok.ensures in
    let next = input_next first begun a p values arrays c.args.number c.args.id c.args.ty c.args.layout _ _ r in
    gathered first begun a p values arrays c.args.number c.args.id c.args.ty c.args.layout _ _ r _ _ e.given (e.bytes told) c.in-Ok.cells
    (e.journal told first begun _ _ r.gathering.asked.places r.id_is next r.gathering.asked.progress) (e.good told)

pub returns-in-Err-clause-ends : goal.returns-in-Err-clause-ends
returns-in-Err-clause-ends g c = λ told first begun a p values arrays r.
    let e = c.in-Err.ensures in
    let next = input_next first begun a p values arrays c.args.number c.args.id c.args.ty c.args.layout _ _ r in
    let P : Status → Type 0 = λ s. Runs first begun (Some a) (g.F.Files.given c.read_array.new.files) (g.F.Files.store c.read_array.new.files) s in
    subst P (sym c.unread_input.ensures)
    (input_ends first begun a p values arrays c.args.number c.args.id c.args.ty c.args.layout _ _ r _ _ e.given (e.bytes told) c.in-Err.fault
    (e.journal told first begun _ _ r.gathering.asked.places r.id_is next r.gathering.asked.progress) (e.faulty told))

pub returns-in-Err-clause-faults : goal.returns-in-Err-clause-faults
returns-in-Err-clause-faults g c =
    let e = c.in-Err.ensures in
    let P : Status → Type 0 = λ s. FileFaults (g.F.Files.faults c.args.files.now) (g.F.Files.faults c.read_array.new.files) s in
    subst P (sym c.unread_input.ensures)
    (input_faults c.args.number _ _ c.in-Err.fault e.kept_faulty (λ same. e.failed (ap (λ (f : CellFault). Err f) same)))

pub returns-in-Err-clause-allowed : goal.returns-in-Err-clause-allowed
returns-in-Err-clause-allowed g c =
    let P : Status → Type 0 = λ s. AllowsPlain s in
    subst P (sym c.unread_input.ensures) (input_allowed c.args.number c.in-Err.fault)
