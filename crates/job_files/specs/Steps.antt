-- What each step on a job's files does to how far the job is.
use Rattle.std.specs.Prelude.{◌≡◌, ◌≢◌, ℕ, ◌+◌, ◌<◌, ◌≤◌, List, [], ◌∷◌, ◌++◌, length, take, Result, Ok, Err}
use Rattle.std.specs.declared.vec.Vec.{Vec}
use Rattle.std.specs.declared.alloc.Global.{Global}
use Rattle.soda_io.specs.Store.{Store}
use Rattle.soda_io.specs.declared.error.IoErr.{IoErr}
use Rattle.soda_io.specs.declared.error.IoErr.TheVariants as io
use Rattle.whole_files.specs.declared.reading.ReadFail.{ReadFail}
use Rattle.whole_files.specs.declared.reading.ReadFail.TheVariants as read
use Rattle.job_files.specs.Files.{JobFile}
use Rattle.job_files.specs.Progress.{Progress, Stuck}
use Rattle.job_files.specs.declared.fail.StepFail.{StepFail}
use Rattle.job_files.specs.declared.fail.StepFail.TheVariants as step

-- a fact about the number of the file whose call failed
abbrev pub IfFailed : {T : Type 0} → Result T StepFail → (ℕ → Type 0) → Type 0
IfFailed (Ok v) P = Unit {0}
IfFailed (Err (step.Failed n)) P = P n
IfFailed (Err step.Memory) P = Unit {0}

-- of the n-th file `place` bytes are read now, and of no other more or fewer than before
pub record Moves (places after : ℕ → ℕ) (n place : ℕ) : Type 0 where
  pub own : after n ≡ place
  pub others : (k : ℕ) → k ≢ n → after k ≡ places k

-- where the job stood before a step, and the store after it
module _ (first : ℕ) (begun : Store) (files : List JobFile) (ended : ℕ) (places : ℕ → ℕ) (given : ℕ) (now : Store) where
  -- asking for one more file
  abbrev pub AsksNext : JobFile → Result ℕ IoErr → Type 0
  AsksNext f (Ok id) = (id ≡ first + length files) × Progress first begun (files ++ f ∷ []) ended places given now
  AsksNext f (Err io.Failed) = Stuck first begun (files ++ f ∷ []) ended (length files) places given now
  AsksNext f (Err io.Memory) = Progress first begun files ended places given now

  -- asking for more files, in order: for want of memory the first of them alone may be asked for
  abbrev pub AsksAll : List JobFile → Result (Vec ℕ Global) StepFail → Type 0
  AsksAll more (Ok ids) = Progress first begun (files ++ more) ended places given now
  AsksAll more (Err (step.Failed n)) = (n < length more)
      × Stuck first begun (files ++ take (n + 1) more) ended (length files + n) places given now
  AsksAll more (Err step.Memory) = (count : ℕ) × (count ≤ length more)
      × Progress first begun (files ++ take count more) ended places given now

  -- reading the next file to its end, at most so many bytes and one more
  abbrev pub ReadsNext : ℕ → Result (Vec ℕ Global) ReadFail → Type 0
  ReadsNext most (Ok bytes) = (after : ℕ → ℕ) × Moves places after ended (places ended + length bytes.items)
      × Progress first begun files (ended + 1) after given now
  ReadsNext most (Err read.TooLong) = (after : ℕ → ℕ) × Moves places after ended (places ended + (most + 1))
      × Progress first begun files ended after given now
  ReadsNext most (Err read.Failed) = (after : ℕ → ℕ) × (place : ℕ) × (place ≤ places ended + most)
      × Moves places after ended place × Stuck first begun files ended ended after given now
  ReadsNext most (Err read.Memory) = (after : ℕ → ℕ) × (place : ℕ) × (place ≤ places ended + (most + 1))
      × Moves places after ended place × Progress first begun files ended after given now

  -- writing to the n-th file
  abbrev pub WritesTo : ℕ → Result (Unit {0}) IoErr → Type 0
  WritesTo n (Ok u) = Progress first begun files ended places given now
  WritesTo n (Err io.Failed) = Stuck first begun files ended n places given now
  WritesTo n (Err io.Memory) = Progress first begun files ended places given now
