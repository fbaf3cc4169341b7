-- What reading an array does to how far a job is with its files.
use Rattle.std.specs.Prelude.{ℕ, ◌+◌, ◌≤◌, List, Result, Ok, Err, ℤ}
use Rattle.soda_io.specs.Store.{Store}
use Rattle.array_bytes.specs.declared.fault.CellFault.{CellFault}
use Rattle.array_bytes.specs.declared.fault.CellFault.TheVariants.{BadCell, CellRange, TooFew, TooMany, TooLong, Failed, Memory}
use Rattle.job_files.specs.Files.{JobFile}
use Rattle.job_files.specs.Progress.{Progress, Stuck}
use Rattle.job_files.specs.Steps.{Moves}

-- where the job stood before the step, and the store after it
module _ (first : ℕ) (begun : Store) (files : List JobFile) (ended : ℕ) (places : ℕ → ℕ) (given : ℕ) (now : Store) where
  -- some of the next file was read, and no call failed: so many of the files are read to their ends
  pub record ReadsSome (reached : ℕ) : Type 0 where
    pub place : ℕ
    pub after : ℕ → ℕ
    pub moves : Moves places after ended place
    pub progress : Progress first begun files reached after given now

  -- the last call failed, and it read the next file
  pub record ReadsUntilFault : Type 0 where
    pub place : ℕ
    pub after : ℕ → ℕ
    pub moves : Moves places after ended place
    pub stuck : Stuck first begun files ended ended after given now

  -- a fault of the bytes was met, at the file's end or before it
  abbrev pub ReadsPart : Type 0
  ReadsPart = (reached : ℕ) × (ended ≤ reached) × (reached ≤ ended + 1) × ReadsSome reached

  -- reading the next file, which holds an array
  abbrev pub ReadsArray : Result (List ℤ) CellFault → Type 0
  ReadsArray (Ok cells) = ReadsSome (ended + 1)
  ReadsArray (Err (BadCell i)) = ReadsPart
  ReadsArray (Err (CellRange i)) = ReadsPart
  ReadsArray (Err (TooFew n)) = ReadsPart
  ReadsArray (Err TooMany) = ReadsPart
  ReadsArray (Err TooLong) = ReadsPart
  ReadsArray (Err Failed) = ReadsUntilFault
  ReadsArray (Err Memory) = ReadsPart
