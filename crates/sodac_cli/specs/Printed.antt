-- What a job prints.
use Rattle.std.specs.Prelude.{◌≡◌, ◌⊎◌, ℕ, Bool, true, false, List, [], ◌++◌, take, Option, Some, None, ℤ}
use Rattle.soda_ir.specs.Program.{PlainProgram}
use Rattle.soda_print.specs.Canonical.{canonical}
use Rattle.plan_job.specs.Plan.{IsPlanText}
use Rattle.job_files.specs.Contents.{Holding}
use Rattle.command_words.specs.declared.mode.Mode.{Mode}
use Rattle.command_words.specs.declared.mode.Mode.TheVariants.{Check, Plain, Plan, Compile, Sim, Selftest}
use Rattle.command_words.specs.Orders.{Asked}
use Rattle.job_status.specs.declared.status.Status.{Status}
use Rattle.job_status.specs.declared.status.Status.TheVariants as is
use Rattle.job_status.specs.Endings.{Ending, ending_of, due, file_fault, memory, out_fault}
use Rattle.compile_job.specs.Modules.{IsSizeText}
use Rattle.job_status.specs.declared.status.ArrayFault.{ArrayFault}
use Rattle.job_status.specs.declared.status.ArrayFault.TheVariants as of
use Rattle.sim_lines.specs.declared.stall.Stall.{Stall as PlainStall}
use Rattle.sodac_cli.specs.Simulated.{ComesTo, Cycles, CyclesUntil, HasCycles, IsReadyToRun, traced, whole_lines}
use Rattle.sodac_cli.specs.Work.{HasProgram, Product, array_files, makes, module_file, no_files, streamed_files}

-- whether a mode prints anything
abbrev pub prints : Mode → Bool
prints Check = true
prints Plain = false
prints Plan = true
prints Compile = true
prints Sim = true
prints Selftest = false

-- these are the lines that a mode prints for a program, whatever its arrays: `check` its canonical text, `plan` its least
-- plan with a certificate, of which there may be several that fit, and `compile` the size of its network
abbrev pub IsPrinted : Mode → PlainProgram → List ℕ → Type 0
IsPrinted Check p lines = lines ≡ canonical p
IsPrinted Plain p lines = lines ≡ []
IsPrinted Plan p lines = IsPlanText p lines
IsPrinted Compile p lines = IsSizeText p lines
IsPrinted Sim p lines = lines ≡ []
IsPrinted Selftest p lines = lines ≡ []

-- What a simulation stands on, and so many cycles of it.
pub record Runs (h : Holding) (a : Asked) (p : PlainProgram) (count : ℕ) : Type 0 where
  pub delays : List ℕ
  pub values : List ℤ
  pub stalls : List PlainStall
  pub ready : IsReadyToRun h a p delays values stalls
  pub cycles : Cycles a p delays stalls count

-- all lines of a simulation: of each cycle where they are asked for, then the number of cycles and the storage
pub record AreWholeLines (h : Holding) (a : Asked) (p : PlainProgram) (lines : List ℕ) : Type 0 where
  pub count : ℕ
  pub runs : Runs h a p count
  pub all : HasCycles a p runs.delays runs.stalls count
  pub lines_are : lines ≡ whole_lines a p runs.delays runs.stalls count

-- the lines of so many cycles of it, as far as a firing is left before each
pub record AreFirstLines (h : Holding) (a : Asked) (p : PlainProgram) (lines : List ℕ) : Type 0 where
  pub count : ℕ
  pub runs : Runs h a p count
  pub lines_are : lines ≡ traced a p runs.delays runs.stalls count

-- all lines that are printed for a program
abbrev pub AreLinesBy : Product → Holding → Asked → PlainProgram → List ℕ → Type 0
AreLinesBy no_files h a p lines = IsPrinted a.mode p lines
AreLinesBy array_files h a p lines = IsPrinted a.mode p lines
AreLinesBy module_file h a p lines = IsPrinted a.mode p lines
AreLinesBy streamed_files h a p lines = AreWholeLines h a p lines

abbrev pub AreLines : Holding → Asked → PlainProgram → List ℕ → Type 0
AreLines h a p lines = AreLinesBy (makes a.mode) h a p lines

-- lines with which they begin: in a simulation those of its first cycles may be all
abbrev pub BeginLines : Holding → Asked → PlainProgram → List ℕ → Type 0
BeginLines h a p lines = AreLines h a p lines ⊎ ((makes a.mode ≡ streamed_files) × AreFirstLines h a p lines)

-- the text stands for a program, and all lines that are printed for it, and nothing else, were taken
pub record PrintsAll (h : Holding) (a : Asked) (old new : List ℕ) : Type 0 where
  pub plain : PlainProgram
  pub program : HasProgram h a plain
  pub lines : List ℕ
  pub are : AreLines h a plain lines
  pub all : new ≡ old ++ lines

-- the text stands for a program, and a prefix of lines that are printed for it was taken
pub record PrintsPrefix (h : Holding) (a : Asked) (old new : List ℕ) : Type 0 where
  pub plain : PlainProgram
  pub program : HasProgram h a plain
  pub lines : List ℕ
  pub are : BeginLines h a plain lines
  pub count : ℕ
  pub some : new ≡ old ++ take count lines

-- a simulation came to this status, a fault of an input, and the lines of the cycles that were done until then were
-- taken: of those before the one in which the fault is met, and of all where it stands at an end; the last two lines
-- were not
pub record PrintsUntilFault (h : Holding) (a : Asked) (old new : List ℕ) (status : Status) : Type 0 where
  pub streams : makes a.mode ≡ streamed_files
  pub plain : PlainProgram
  pub program : HasProgram h a plain
  pub delays : List ℕ
  pub values : List ℤ
  pub stalls : List PlainStall
  pub ready : IsReadyToRun h a plain delays values stalls
  pub comes : ComesTo a plain delays stalls h status
  pub count : ℕ
  pub cycles : CyclesUntil a plain delays stalls h status comes count
  pub going : Cycles a plain delays stalls count
  pub lines : new ≡ old ++ traced a plain delays stalls count

-- what `out` took where the arrays are refused: nothing, or the lines of the cycles that were done
abbrev pub PrintsRefused : ArrayFault → Holding → Asked → (old new : List ℕ) → Type 0
PrintsRefused (of.Cell number fault) h a old new = ((prints a.mode ≡ false) × (new ≡ old))
    ⊎ PrintsUntilFault h a old new (is.Array (of.Cell number fault))
PrintsRefused (of.Params line) h a old new = new ≡ old
PrintsRefused (of.Stall line) h a old new = new ≡ old

-- a call on a file failed: nothing was taken, or, where a simulation ran, the first lines of it
abbrev pub PrintsUntilFailed : Holding → Asked → (old new : List ℕ) → Type 0
PrintsUntilFailed h a old new = (new ≡ old) ⊎ ((makes a.mode ≡ streamed_files) × PrintsPrefix h a old new)

-- what `out` took where a status is due: all the lines at Ok, and nothing where the job is refused before it runs
abbrev pub PrintsDue : Holding → Asked → (old new : List ℕ) → Status → Type 0
PrintsDue h a old new is.Ok = PrintsAll h a old new
PrintsDue h a old new is.Usage = new ≡ old
PrintsDue h a old new (is.Program r) = new ≡ old
PrintsDue h a old new (is.Array fault) = PrintsRefused fault h a old new
PrintsDue h a old new (is.FileFault role) = new ≡ old
PrintsDue h a old new is.OutFault = new ≡ old
PrintsDue h a old new is.Memory = new ≡ old
PrintsDue h a old new is.NotYetBuilt = new ≡ old

-- by how the run ended: at a fault of `out`, which comes in a mode that prints, a prefix of the lines; want of memory
-- may come before them or in their midst
abbrev pub PrintsBy : Ending → Holding → Asked → (old new : List ℕ) → Status → Type 0
PrintsBy due h a old new status = PrintsDue h a old new status
PrintsBy (file_fault role) h a old new status = PrintsUntilFailed h a old new
PrintsBy out_fault h a old new status = (prints a.mode ≡ true) × PrintsPrefix h a old new
PrintsBy memory h a old new status = (new ≡ old) ⊎ (PrintsPrefix h a old new)

-- what `out` took, by what the words ask for
abbrev pub Prints : Holding → Option Asked → (old new : List ℕ) → Status → Type 0
Prints h None old new status = new ≡ old
Prints h (Some a) old new status = PrintsBy (ending_of status) h a old new status
