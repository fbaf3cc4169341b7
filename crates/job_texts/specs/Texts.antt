-- What reading one more text of a job does to how far the job is with its files.
use Rattle.std.specs.Prelude.{◌⊎◌, ℕ, ◌+◌, ◌≤◌, List, [], ◌∷◌, ◌++◌, length, Result, Ok, Err}
use Rattle.std.specs.declared.vec.Vec.{Vec}
use Rattle.std.specs.declared.alloc.Global.{Global}
use Rattle.soda_io.specs.Store.{Store}
use Rattle.whole_files.specs.declared.reading.ReadFail.{ReadFail}
use Rattle.whole_files.specs.declared.reading.ReadFail.TheVariants.{TooLong, Failed, Memory}
use Rattle.job_files.specs.Files.{JobFile}
use Rattle.job_files.specs.Progress.{Progress, Stuck}
use Rattle.job_files.specs.Steps.{Moves}

-- where the job stood before, with all its files read to their ends, and the store after
module _ (first : ℕ) (begun : Store) (files : List JobFile) (places : ℕ → ℕ) (given : ℕ) (now : Store) where
  -- the text was asked for, and so many bytes of it were read: to its end, or not
  pub record HasRead (f : JobFile) (ended count : ℕ) : Type 0 where
    pub after : ℕ → ℕ
    pub moves : Moves places after (length files) count
    pub progress : Progress first begun (files ++ f ∷ []) ended after given now

  -- the last call failed: it asked for the text, or read it
  pub record StuckAt (f : JobFile) (most : ℕ) : Type 0 where
    pub after : ℕ → ℕ
    pub count : ℕ
    pub few : count ≤ most
    pub moves : Moves places after (length files) count
    pub fault : Stuck first begun (files ++ f ∷ []) (length files) (length files) after given now

  -- memory was refused as the text was asked for, or as it was read
  abbrev pub Interrupted : JobFile → ℕ → Type 0
  Interrupted f most = Progress first begun files (length files) places given now
      ⊎ ((count : ℕ) × (count ≤ most + 1) × HasRead f (length files) count)

  -- one more text, of at most so many bytes
  abbrev pub ReadsText : JobFile → ℕ → Result (Vec ℕ Global) ReadFail → Type 0
  ReadsText f most (Ok bytes) = HasRead f (length files + 1) (length bytes.items)
  ReadsText f most (Err TooLong) = HasRead f (length files) (most + 1)
  ReadsText f most (Err Failed) = StuckAt f most
  ReadsText f most (Err Memory) = Interrupted f most
