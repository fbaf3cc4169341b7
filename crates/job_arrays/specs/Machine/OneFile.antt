-- What reading the cells of one file to its end answers and does.
use Rattle.std.specs.Prelude.{◌≡◌, ◌≢◌, ◌↔◌, ℕ, ◌<◌, List, [], ◌∷◌, ◌++◌, ℤ}
use Rattle.std.specs.Prelude.{Result, Ok, Err, IsErrOf, OnOk}
use Rattle.soda_words.specs.IntType.{IntType}
use Rattle.soda_io.specs.Store.{KeepsBytes, KeepsIds, Store}
use Rattle.soda_io.specs.declared.call.FileCall.{FileCall}
use Rattle.whole_files.specs.Journal.{EndsFailed, ReadsOf, gots}
use Rattle.array_bytes.specs.declared.fault.CellFault.{CellFault}
use Rattle.array_bytes.specs.declared.fault.CellFault.TheVariants.{Failed}
use Rattle.array_bytes.specs.declared.form.Form.{Form}
use Rattle.bursts.specs.Blocks.{EndsLast}
use Rattle.job_arrays.specs.Arrays.{IsFaulty, IsGood, IsOfBytes}

-- these are the cells of the bytes, or a fault of theirs is the first
abbrev pub CellsAre : Form → IntType → ℕ → List ℕ → List ℤ → Result (Unit {0}) CellFault → Type 0
CellsAre form t n bytes cells (Ok u) = IsGood form t n bytes cells
CellsAre form t n bytes cells (Err fault) = IsOfBytes fault → IsFaulty form t n bytes fault

-- reads by one id and nothing else: the last failed exactly where the answer is `Failed`, and at Ok it met the end
pub record ReadsFile (given : ℕ) (old new : Store) (id : ℕ) (result : Result (Unit {0}) CellFault) : Type 0 where
  pub ids : KeepsIds given old new
  pub bytes : KeepsBytes old new
  pub others : (k : ℕ) → k < given → k ≢ id → new.place k ≡ old.place k
  -- the journal's new entries
  pub entries : List FileCall
  pub calls : new.calls ≡ old.calls ++ entries
  pub reads : ReadsOf id entries
  pub failed : IsErrOf result Failed ↔ EndsFailed entries
  pub end : OnOk result (EndsLast (gots id entries))
