use Rattle.std.proofs.Common.{◌≡◌, ◌⊎◌, refl, inr}
use Rattle.job_status.specs.declared.status.Status.TheVariants as is
use Rattle.sodac_cli.specs.Correct.{IsDue, Runs}
use Rattle.job_status.specs.Counts.{FileFaults, OutFaults}
use Rattle.job_status.specs.Endings.{ending_of}
use Rattle.sodac_cli.specs.Printed.{Prints}
use Rattle.sodac_cli.specs.Work.{asked_of}
use Rattle.sodac_cli.proofs.Completed.{completed, due_of_journal}
use Rattle.sodac_cli.proofs.Memory.{memory_prints, memory_runs, of_answer}
use Rattle.sodac_cli.proofs.top.execute.Goals as goal

pub returns-clause-due : goal.returns-clause-due
returns-clause-due g c = λ told.
    let own = c.job-status.result in
    of_answer (λ s. IsDue (g.F.Files.store c.args.files.now).bytes c.args.words.now s) own c.report.result c.report.ensures.same
    (due_of_journal _ _ _ _ _ (ending_of own) own (c.job-status.ensures.runs told).journal) tt

pub returns-clause-completes : goal.returns-clause-completes
returns-clause-completes g c = λ told files own is_due sound out_sound.
    let h = (g.F.Files.store c.args.files.now).bytes in
    let ends = c.job-status.result in
    of_answer (λ s. (s ≡ own) ⊎ (s ≡ is.Memory)) ends c.report.result c.report.ensures.same
    (completed h (asked_of c.args.words.now) (c.only_one_is_due.ensures h c.args.words.now) _ _ _ _ files own is_due sound out_sound ends
    (due_of_journal _ _ _ _ _ (ending_of ends) ends (c.job-status.ensures.runs told).journal) c.job-status.ensures.faults c.job-status.ensures.out_faults)
    (inr refl)

pub returns-clause-runs : goal.returns-clause-runs
returns-clause-runs g c = λ told.
    let own = c.job-status.result in
    let runs = c.job-status.ensures.runs told in
    of_answer (λ s. Runs (g.F.Files.given c.args.files.now) (g.F.Files.store c.args.files.now) (asked_of c.args.words.now)
    (g.F.Files.given c.job-status.new.files) (g.F.Files.store c.job-status.new.files) s) own c.report.result c.report.ensures.same
    runs (memory_runs _ _ _ _ _ own runs)

pub returns-clause-prints : goal.returns-clause-prints
returns-clause-prints g c = λ told also.
    let own = c.job-status.result in
    let prints = c.job-status.ensures.prints told also in
    of_answer (λ s. Prints (g.F.Files.store c.args.files.now).bytes (asked_of c.args.words.now) (g.S.Sink.taken c.args.out.now)
    (g.S.Sink.taken c.job-status.new.out) s) own c.report.result c.report.ensures.same
    prints (memory_prints _ _ _ _ own prints)

pub returns-clause-faults : goal.returns-clause-faults
returns-clause-faults g c =
    of_answer (λ s. FileFaults (g.F.Files.faults c.args.files.now) (g.F.Files.faults c.job-status.new.files) s) c.job-status.result c.report.result
    c.report.ensures.same c.job-status.ensures.faults tt

pub returns-clause-out_faults : goal.returns-clause-out_faults
returns-clause-out_faults g c =
    of_answer (λ s. OutFaults (g.S.Sink.faults c.args.out.now) (g.S.Sink.faults c.job-status.new.out) s) c.job-status.result c.report.result
    c.report.ensures.same c.job-status.ensures.out_faults tt
