use Rattle.std.proofs.Common.{◌≡◌, Bool, true, false, List, ℕ, ℤ, Result, Ok, Err, refl}
use Rattle.array_bytes.specs.Machine.Scans.{Closes, CountsOne, IsRunOf, IsScanOf, Judges, KeepsKind}
use Rattle.array_bytes.specs.Runs.{open_run}
use Rattle.array_bytes.specs.Values.{text_value}
use Rattle.array_bytes.specs.declared.fault.CellFault.{CellFault}
use Rattle.array_bytes.specs.declared.text_scan.TextScan.{TextScan}
use Rattle.array_bytes.proofs.ScanEnds.{close_run, too_few}
use Rattle.array_bytes.proofs.text_scan.TextScan.close.Goals as goal

pub returns-then-self-eq0-clause-closed : goal.returns-then-self-eq0-clause-closed
returns-then-self-eq0-clause-closed c = λ closed bytes cells a. too_few closed c.args.self.now bytes cells a c.if-self-eq0.true c.requires

pub returns-else-self-eq0-clause-closed : goal.returns-else-self-eq0-clause-closed
returns-else-self-eq0-clause-closed c = λ closed bytes cells a.
    close_run c.args.self.now c.end_run.new.self bytes cells closed a c.if-self-eq0.false c.requires c.end_run.ensures.kind c.end_run.ensures.left c.end_run.ensures.begun c.end_run.result c.end_run.ensures.next (λ r is. c.end_run.ensures.judged r is)
