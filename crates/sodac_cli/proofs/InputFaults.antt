-- The status of what came in the place of an input's cells.
use Rattle.std.proofs.Common.{◌≡◌, ℕ, refl}
use Rattle.soda_io.specs.Cause.{Rose}
use Rattle.array_bytes.specs.declared.fault.CellFault.{CellFault}
use Rattle.array_bytes.specs.declared.fault.CellFault.TheVariants as cell
use Rattle.job_arrays.specs.Arrays.{IsOfBytes}
use Rattle.sodac_cli.specs.Allowed.{AllowsPlain}
use Rattle.job_status.specs.Counts.{FileFaults}
use Rattle.sodac_cli.specs.Machine.Text.{unread_input}

-- it has its count of faults
pub input_faults : (number before now : ℕ) (f : CellFault) → (IsOfBytes f → now ≡ before) → (f ≡ cell.Failed → Rose before now)
    → FileFaults before now (unread_input number f)
input_faults number before now (cell.BadCell i) kept failed = kept tt
input_faults number before now (cell.CellRange i) kept failed = kept tt
input_faults number before now (cell.TooFew n) kept failed = kept tt
input_faults number before now cell.TooMany kept failed = kept tt
input_faults number before now cell.TooLong kept failed = kept tt
input_faults number before now cell.Failed kept failed = failed refl
input_faults number before now cell.Memory kept failed = tt

-- and may come in `plain`
pub input_allowed : (number : ℕ) (f : CellFault) → AllowsPlain (unread_input number f)
input_allowed number (cell.BadCell i) = tt
input_allowed number (cell.CellRange i) = tt
input_allowed number (cell.TooFew n) = tt
input_allowed number cell.TooMany = tt
input_allowed number cell.TooLong = tt
input_allowed number cell.Failed = tt
input_allowed number cell.Memory = tt
