-- What writing a list of bytes whole does.
use Rattle.std.specs.Prelude.{◌≡◌, ◌≢◌, ◌↔◌, ℕ, ◌-◌, ◌≤◌, List, [], ◌∷◌, ◌++◌, length, take, Some, None, Result, Ok, Err, OnOk, All, IsErrOf}
use Rattle.soda_io.specs.declared.error.IoErr.{IoErr}
use Rattle.soda_io.specs.declared.error.IoErr.TheVariants.{Failed, Memory}
use Rattle.soda_io.specs.declared.call.FileCall.{FileCall}
use Rattle.soda_io.specs.declared.call.FileCall.TheVariants.{Write}
use Rattle.soda_io.specs.Store.{Store, KeepsIds, KeepsPlaces}
use Rattle.whole_files.specs.Journal.{IsTaken, EndsFailed, WritesOf}

-- the journal's last new entry, where a write failed
abbrev pub last_write : ℕ → ℕ → Result (Unit {0}) IoErr → List FileCall
last_write id given (Ok u) = []
last_write id given (Err Failed) = Write id given None ∷ []
last_write id given (Err Memory) = []

-- after writes by the id that each took some bytes, all are put at Ok, and a prefix of them after an error
pub record WritesWhole (given : ℕ) (old new : Store) (id : ℕ) (bytes : List ℕ) (result : Result (Unit {0}) IoErr)
    : Type 0 where
  pub ids : KeepsIds given old new
  pub places : KeepsPlaces given old new
  pub others : (n : List ℕ) → n ≢ old.name id → new.bytes n ≡ old.bytes n
  -- how many of the bytes were put
  pub count : ℕ
  pub at_most : count ≤ length bytes
  pub all : OnOk result (count ≡ length bytes)
  pub own : (xs : List ℕ) → old.bytes (old.name id) ≡ Some xs → new.bytes (old.name id) ≡ Some (xs ++ take count bytes)
  -- the journal's new entries: the writes that took bytes, and the one that failed
  pub entries : List FileCall
  pub takens : All (IsTaken id) entries
  pub calls : new.calls ≡ old.calls ++ (entries ++ last_write id (length bytes - count) result)
  -- what they say in general
  pub writes : WritesOf id (entries ++ last_write id (length bytes - count) result)
  pub fails : IsErrOf result Failed ↔ EndsFailed (entries ++ last_write id (length bytes - count) result)
