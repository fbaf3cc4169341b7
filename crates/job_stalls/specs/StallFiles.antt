-- What reading the stall file of a job answers, and what it does to how far the job is with its files.
use Rattle.std.specs.Prelude.{◌≡◌, ◌≢◌, ◌⊎◌, ℕ, ◌+◌, ◌≤◌, List, length, None, Some, Option, Result, Ok, Err}
use Rattle.std.specs.List.{filter_map}
use Rattle.std.specs.declared.vec.Vec.{Vec}
use Rattle.std.specs.declared.alloc.Global.{Global}
use Rattle.soda_io.specs.Store.{Store}
use Rattle.soda_ir.specs.Program.{PlainProgram}
use Rattle.param_lines.specs.Lines.{rows_of}
use Rattle.sim_lines.specs.Limits.{most_stall_bytes}
use Rattle.sim_lines.specs.Stalls.{refused_line, stall_of}
use Rattle.sim_lines.specs.declared.stall.Stall.{Stall}
use Rattle.job_files.specs.Files.{JobFile}
use Rattle.job_texts.specs.Texts.{HasRead, Interrupted, StuckAt}
use Rattle.job_stalls.specs.declared.fail.StallFail.{StallFail}
use Rattle.job_stalls.specs.declared.fail.StallFail.TheVariants.{Line, Failed, Memory}

-- the name holds a stall file that is refused at no line, and these are the stalls that it lists
pub record ListsStalls (p : PlainProgram) (holding : List ℕ → Option (List ℕ)) (name : List ℕ) (stalls : List Stall)
    : Type 0 where
  pub bytes : List ℕ
  pub there : holding name ≡ Some bytes
  pub fine : refused_line p bytes ≡ None
  pub listed : stalls ≡ filter_map (stall_of p) (rows_of bytes)

-- it holds one that is refused at this line
pub record IsRefusedAt (p : PlainProgram) (holding : List ℕ → Option (List ℕ)) (name : List ℕ) (line : ℕ) : Type 0 where
  pub bytes : List ℕ
  pub there : holding name ≡ Some bytes
  pub refused : refused_line p bytes ≡ Some line

-- where the job stood before, with all its files read to their ends, and the store after
module _ (first : ℕ) (begun : Store) (files : List JobFile) (places : ℕ → ℕ) (given : ℕ) (now : Store) where
  -- no byte behind the first that is too many was read; where a line but 0 is refused, the file was read to its end
  abbrev pub ReadsStalls : JobFile → Result (Vec Stall Global) StallFail → Type 0
  ReadsStalls f (Ok stalls) = (count : ℕ) × (count ≤ most_stall_bytes)
      × HasRead first begun files places given now f (length files + 1) count
  ReadsStalls f (Err (Line line)) = (ended : ℕ) × (count : ℕ) × (count ≤ most_stall_bytes + 1)
      × (line ≢ 0 → ended ≡ length files + 1) × HasRead first begun files places given now f ended count
  ReadsStalls f (Err Failed) = StuckAt first begun files places given now f most_stall_bytes
  ReadsStalls f (Err Memory) = Interrupted first begun files places given now f most_stall_bytes
      ⊎ ((count : ℕ) × (count ≤ most_stall_bytes) × HasRead first begun files places given now f (length files + 1) count)
