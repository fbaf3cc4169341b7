-- What a call of `execute` promises, on one page. A clause of the call stands for each fact:
--
-- - due: the status is the one that is due by the words and by what the names hold, or a fault, or want of memory;
-- - journal: the files that were asked for, in order, and how far each was read;
-- - files: what each name holds afterwards;
-- - printed: what `out` took;
-- - line: what `err` took;
-- - faults: the counts of the files and of `out`.
use Rattle.std.specs.Prelude.{◌≡◌, ◌⊎◌, ℕ, true, List, Option, Some, String}
use Rattle.array_bytes.specs.declared.fault.CellFault.{CellFault}
use Rattle.job_status.specs.declared.status.ArrayFault.TheVariants as of
use Rattle.std.specs.Global.{Global}
use Rattle.soda_io.specs.Store.{Store}
use Rattle.job_files.specs.Contents.{Holding}
use Rattle.job_files.specs.Files.{JobFile}
use Rattle.command_words.specs.Orders.{Asked}
use Rattle.job_status.specs.declared.status.Status.{Status}
use Rattle.job_status.specs.declared.status.Status.TheVariants as is
use Rattle.sodac_cli.specs.Due.{Due, DueFor, MayRun}
use Rattle.job_status.specs.Endings.{Ending, ending_of, due, file_fault, memory, out_fault}
use Rattle.sodac_cli.specs.Journal.{Asks}
use Rattle.sodac_cli.specs.Outputs.{Delivers, DeliversAtEnd, DeliversBefore, Leaves}
use Rattle.sodac_cli.specs.Work.{asked_of, is_built}

-- a fault of `out` comes only where the job is else done; in a simulation, which prints as it runs, where it may run
abbrev pub MayPrint : Holding → Option Asked → Type 0
MayPrint h asked = ((files : List JobFile) × DueFor h asked files is.Ok)
    ⊎ ((a : Asked) × (asked ≡ Some a) × (is_built a ≡ true) × (files : List JobFile) × MayRun h a files)

-- the status is due
abbrev pub IsDueBy : Ending → Holding → Option Asked → Status → Type 0
IsDueBy due h asked status = (files : List JobFile) × DueFor h asked files status
IsDueBy (file_fault role) h asked status = Unit {0}
IsDueBy out_fault h asked status = MayPrint h asked
IsDueBy memory h asked status = Unit {0}

abbrev pub IsDue : Holding → List (String Global) → Status → Type 0
IsDue h words status = IsDueBy (ending_of status) h (asked_of words) status

-- with no count risen, the status that is due is answered, or want of memory
abbrev pub Completes : Holding → List (String Global) → (files outs : Type 0) → Status → Type 0
Completes h words risen out_risen status = (files : List JobFile) → (own : Status) → Due h words files own
    → (risen → ⊥) → (out_risen → ⊥) → (status ≡ own) ⊎ (status ≡ is.Memory)

-- what a job that asks for this does with the files and leaves of them, from a store and so many ids that were given
pub record Runs (first : ℕ) (begun : Store) (asked : Option Asked) (given : ℕ) (now : Store) (status : Status)
    : Type 0 where
  pub journal : Asks first begun asked given now status
  pub files : Leaves begun now asked
  pub delivered : status ≡ is.Ok → Delivers begun.bytes now.bytes asked
  pub whole : status ≡ is.OutFault → DeliversBefore begun.bytes now.bytes asked
  pub at_end : (number : ℕ) (fault : CellFault) → status ≡ is.Array (of.Cell number fault)
      → DeliversAtEnd begun.bytes now.bytes asked
