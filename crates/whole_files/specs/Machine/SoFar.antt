-- What the reads and writes of a loop have done so far.
use Rattle.std.specs.Prelude.{◌≡◌, ◌≢◌, ℕ, ◌+◌, ◌<◌, List, ◌++◌, length, take, Some, All}
use Rattle.soda_io.specs.declared.call.FileCall.{FileCall}
use Rattle.soda_io.specs.Store.{Store, KeepsIds, KeepsBytes, KeepsPlaces, left}
use Rattle.whole_files.specs.Journal.{IsGot, IsTaken}

-- reads by one id took these bytes, and nothing else changed
pub record Took (given : ℕ) (old new : Store) (id : ℕ) (taken : List ℕ) : Type 0 where
  pub ids : KeepsIds given old new
  pub bytes : KeepsBytes old new
  pub others : (k : ℕ) → k < given → k ≢ id → new.place k ≡ old.place k
  pub got : left old id ≡ taken ++ left new id
  pub place : new.place id ≡ old.place id + length taken
  -- the journal's new entries
  pub entries : List FileCall
  pub gots : All (IsGot id) entries
  pub calls : new.calls ≡ old.calls ++ entries

-- writes by one id have put the first `count` of these bytes at the end of its name, and nothing else changed
pub record Put (given : ℕ) (old new : Store) (id count : ℕ) (bytes : List ℕ) : Type 0 where
  pub ids : KeepsIds given old new
  pub places : KeepsPlaces given old new
  pub others : (n : List ℕ) → n ≢ old.name id → new.bytes n ≡ old.bytes n
  pub own : (xs : List ℕ) → old.bytes (old.name id) ≡ Some xs → new.bytes (old.name id) ≡ Some (xs ++ take count bytes)
  pub entries : List FileCall
  pub takens : All (IsTaken id) entries
  pub calls : new.calls ≡ old.calls ++ entries
