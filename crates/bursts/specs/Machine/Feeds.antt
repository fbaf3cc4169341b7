-- What was read of a file and isn't used yet.
use Rattle.std.specs.Prelude.{◌≡◌, ◌≢◌, ℕ, ◌+◌, ◌-◌, ◌<◌, ◌≤◌, Bool, true, false, if◌then◌else◌, List, [], ◌∷◌, ◌++◌, length, take, drop, ⊤}
use Rattle.std.specs.Prelude.{Option, Some, None}
use Rattle.std.specs.Prelude.{Result, Ok, Err}
use Rattle.soda_io.specs.Store.{Store, KeepsIds, KeepsBytes, left}
use Rattle.soda_io.specs.declared.call.FileCall.{FileCall}
use Rattle.soda_io.specs.declared.call.FileCall.TheVariants.{Read}
use Rattle.array_bytes.specs.declared.fault.CellFault.{CellFault}
use Rattle.array_bytes.specs.declared.fault.CellFault.TheVariants.{BadCell, CellRange, TooFew, TooMany, TooLong, Failed, Memory}
use Rattle.bursts.specs.declared.feed.Feed.{Feed}

-- the bytes that aren't used yet
abbrev pub unread : Feed → List ℕ
unread f = take (f.filled - f.start) (drop f.start f.buffer.items)

-- the bytes of a file: those that were used, those that were read but not used, and those behind the place
pub record FeedsOn (f : Feed) (used bytes : List ℕ) (place : ℕ) : Type 0 where
  pub split : bytes ≡ used ++ (unread f ++ drop place bytes)
  pub at : place ≡ length used + length (unread f)
  pub end : f.ended ≡ true → drop place bytes ≡ []

-- what a fill answers: whether there were more bytes, and only a read's own faults
abbrev pub Fills : Feed → Feed → Result Bool CellFault → Type 0
Fills old new (Ok true) = (old.filled < new.filled) × (old.ended ≡ false) × (new.ended ≡ false)
Fills old new (Ok false) = (new.filled ≡ old.filled) × (new.ended ≡ true)
Fills old new (Err Failed) = (new.filled ≡ old.filled) × (new.ended ≡ old.ended) × (old.ended ≡ false)
Fills old new (Err Memory) = (new.filled ≡ old.filled) × (new.ended ≡ old.ended) × (old.ended ≡ false)
Fills old new (Err f) = ⊥

-- the entry of a read that met the end; none where it was met before
abbrev pub end_entry : ℕ → ℕ → Bool → List FileCall
end_entry id asked ended = if ended then [] else Read id asked (Some 0) ∷ []

-- the journal's entry of a fill that got n bytes
abbrev pub fill_entry : ℕ → ℕ → Bool → ℕ → Result Bool CellFault → List FileCall
fill_entry id asked ended n (Ok b) = if b then Read id asked (Some n) ∷ [] else end_entry id asked ended
fill_entry id asked ended n (Err Failed) = Read id asked None ∷ []
fill_entry id asked ended n (Err f) = []

-- what it does to the files
pub record FillsFile (given : ℕ) (old new : Store) (id asked : ℕ) (f g : Feed) (result : Result Bool CellFault)
    : Type 0 where
  pub ids : KeepsIds given old new
  pub bytes : KeepsBytes old new
  pub others : (k : ℕ) → k < given → k ≢ id → new.place k ≡ old.place k
  -- the bytes that it got
  pub more : List ℕ
  pub grown : unread g ≡ unread f ++ more
  pub some : result ≡ Ok true → 0 < length more
  pub none : result ≢ Ok true → more ≡ []
  pub got : left old id ≡ more ++ left new id
  pub place : new.place id ≡ old.place id + length more
  pub end : f.ended ≡ false → g.ended ≡ true → left new id ≡ []
  pub calls : new.calls ≡ old.calls ++ fill_entry id asked f.ended (length more) result
