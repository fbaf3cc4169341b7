-- What reading a file whole does.
use Rattle.std.specs.Prelude.{◌≡◌, ◌≢◌, ◌↔◌, ℕ, ◌+◌, ◌<◌, ◌≤◌, List, [], ◌∷◌, ◌++◌, length, Some, None, Result, Ok, Err, All, IsErrOf}
use Rattle.std.specs.declared.vec.Vec.{Vec}
use Rattle.std.specs.declared.alloc.Global.{Global}
use Rattle.soda_io.specs.declared.call.FileCall.{FileCall}
use Rattle.soda_io.specs.declared.call.FileCall.TheVariants.{Read}
use Rattle.soda_io.specs.Store.{Store, KeepsIds, KeepsBytes, left}
use Rattle.whole_files.specs.Journal.{IsGot, EndsFailed, ReadsOf}
use Rattle.whole_files.specs.declared.reading.ReadFail.{ReadFail}
use Rattle.whole_files.specs.declared.reading.ReadFail.TheVariants.{TooLong, Failed, Memory}

-- the journal's last new entry: the read at the end, or the one that failed; `asked` is the length of its buffer
abbrev pub last_read : ℕ → ℕ → Result (List ℕ) ReadFail → List FileCall
last_read id asked (Ok bytes) = Read id asked (Some 0) ∷ []
last_read id asked (Err Failed) = Read id asked None ∷ []
last_read id asked (Err TooLong) = []
last_read id asked (Err Memory) = []

-- how many bytes were taken: all at Ok, one more than `most` where there are more, and never more than that
abbrev pub TakesUpTo : ℕ → List ℕ → Result (List ℕ) ReadFail → Type 0
TakesUpTo most taken (Ok bytes) = (taken ≡ bytes) × (length taken ≤ most)
TakesUpTo most taken (Err TooLong) = length taken ≡ most + 1
TakesUpTo most taken (Err Failed) = length taken ≤ most
TakesUpTo most taken (Err Memory) = length taken ≤ most + 1

-- after reads by the id that each got some bytes, one that met the end, or one that failed
pub record ReadsWhole (given : ℕ) (old new : Store) (id most : ℕ) (result : Result (List ℕ) ReadFail) : Type 0 where
  pub ids : KeepsIds given old new
  pub bytes : KeepsBytes old new
  pub others : (k : ℕ) → k < given → k ≢ id → new.place k ≡ old.place k
  -- the bytes that were taken, what is left behind them, and the place of the id
  pub taken : List ℕ
  pub got : left old id ≡ taken ++ left new id
  pub place : new.place id ≡ old.place id + length taken
  pub amount : TakesUpTo most taken result
  -- the journal's new entries: the reads that got bytes, and the last
  pub entries : List FileCall
  pub asked : ℕ
  pub gots : All (IsGot id) entries
  pub calls : new.calls ≡ old.calls ++ (entries ++ last_read id asked result)
  -- what they say in general
  pub reads : ReadsOf id (entries ++ last_read id asked result)
  pub fails : IsErrOf result Failed ↔ EndsFailed (entries ++ last_read id asked result)

-- an answer with a vector, as one with its list
abbrev pub items_of : Result (Vec ℕ Global) ReadFail → Result (List ℕ) ReadFail
items_of (Ok v) = Ok v.items
items_of (Err e) = Err e
