-- How far a job is with its files, as the journal of calls shows it.
use Rattle.std.specs.Prelude.{◌≡◌, ◌≢◌, ℕ, ◌+◌, ◌<◌, ◌≤◌, Bool, true, false, List, [], ◌∷◌, ◌++◌, length, slice_get, Option, Some, None, All}
use Rattle.soda_io.specs.declared.call.FileCall.{FileCall}
use Rattle.soda_io.specs.declared.call.FileCall.TheVariants.{Open, Create, Read, Write}
use Rattle.soda_io.specs.Store.{Store}
use Rattle.whole_files.specs.Journal.{gots}
use Rattle.job_files.specs.Files.{JobFile}

-- the calls that asked for a file, in order: whether to open it, its name, and the id that was given
abbrev pub askings : List FileCall → List (Bool × List ℕ × Option ℕ)
askings [] = []
askings (Open name id ∷ es) = (true, name, id) ∷ askings es
askings (Create name id ∷ es) = (false, name, id) ∷ askings es
askings (Read id asked got ∷ es) = askings es
askings (Write id given taken ∷ es) = askings es

-- each of the files was asked for in order, and got the next id; the first has this one
abbrev pub given_from : ℕ → List JobFile → List (Bool × List ℕ × Option ℕ)
given_from id [] = []
given_from id (f ∷ fs) = (f.opened, f.name, Some id) ∷ given_from (id + 1) fs

-- the names that calls created, in order
abbrev pub created : List FileCall → List (List ℕ)
created [] = []
created (Create name (Some id) ∷ es) = name ∷ created es
created (Create name None ∷ es) = created es
created (Open name id ∷ es) = created es
created (Read id asked got ∷ es) = created es
created (Write id given taken ∷ es) = created es

-- a call that didn't fail; a read or a write is by one of so many ids, of which this is the first
abbrev pub IsDone : ℕ → ℕ → FileCall → Type 0
IsDone first count (Open name (Some id)) = Unit {0}
IsDone first count (Create name (Some id)) = Unit {0}
IsDone first count (Read id asked (Some n)) = (first ≤ id) × (id < first + count)
IsDone first count (Write id given (Some n)) = (first ≤ id) × (id < first + count)
IsDone first count (Open name None) = ⊥
IsDone first count (Create name None) = ⊥
IsDone first count (Read id asked None) = ⊥
IsDone first count (Write id given None) = ⊥

-- a call that asked for this file, and failed
abbrev pub IsRefusedAsking : JobFile → FileCall → Type 0
IsRefusedAsking f (Open name None) = (f.opened ≡ true) × (f.name ≡ name)
IsRefusedAsking f (Create name None) = (f.opened ≡ false) × (f.name ≡ name)
IsRefusedAsking f (Open name (Some id)) = ⊥
IsRefusedAsking f (Create name (Some id)) = ⊥
IsRefusedAsking f (Read id asked got) = ⊥
IsRefusedAsking f (Write id given taken) = ⊥

-- a read or a write by this id that failed; a read is by the id of the file that is next to be read
abbrev pub IsFailedUse : (id next : ℕ) → FileCall → Type 0
IsFailedUse id next (Read i asked None) = (i ≡ id) × (id ≡ next)
IsFailedUse id next (Write i given None) = i ≡ id
IsFailedUse id next (Read i asked (Some n)) = ⊥
IsFailedUse id next (Write i given (Some n)) = ⊥
IsFailedUse id next (Open name i) = ⊥
IsFailedUse id next (Create name i) = ⊥

-- none of these reads met the end
abbrev pub MetNoEnd : List (Option ℕ) → Type 0
MetNoEnd gs = All (λ g. g ≢ Some 0) gs

-- the last of these reads met the end, and none before it did
pub record MetTheEnd (gs : List (Option ℕ)) : Type 0 where
  pub before : List (Option ℕ)
  pub last : gs ≡ before ++ Some 0 ∷ []
  pub none : MetNoEnd before

-- Of the files that have the ids from `first` on, the first `ended` were read to their ends and no further; the next
-- one wasn't read to its end, and those behind it weren't read at all.
pub record AreReadOut (first ended : ℕ) (entries : List FileCall) : Type 0 where
  pub out : (n : ℕ) → n < ended → MetTheEnd (gots (first + n) entries)
  pub next : MetNoEnd (gots (first + ended) entries)
  pub rest : (n : ℕ) → ended < n → gots (first + n) entries ≡ []

-- an id of this file, by which so many bytes were read
pub record IsIdOf (s : Store) (id : ℕ) (f : JobFile) (read : ℕ) : Type 0 where
  pub name : s.name id ≡ f.name
  pub opened : s.opened id ≡ f.opened
  pub place : s.place id ≡ read

-- These calls asked for exactly these files, in order, the n-th got the n-th id from `first` on, and none of them
-- failed. The first `ended` of the files were read to their ends. Of the n-th file `places n` bytes were read.
pub record GoesWell (first : ℕ) (files : List JobFile) (ended : ℕ) (places : ℕ → ℕ) (given : ℕ) (now : Store)
    (entries : List FileCall) : Type 0 where
  pub count : given ≡ first + length files
  pub within : ended ≤ length files
  pub done : All (IsDone first (length files)) entries
  pub asked : askings entries ≡ given_from first files
  pub read : AreReadOut first ended entries
  pub ids : (n : ℕ) → (f : JobFile) → slice_get files n ≡ Some f → IsIdOf now (first + n) f (places n)
  pub unread : (n : ℕ) → ended < n → places n ≡ 0
  pub unasked : (n : ℕ) → length files ≤ n → places n ≡ 0

-- Since the job began, with so many ids given and this store, exactly these files were asked for, in order, and no call
-- failed; how far each was read is as `GoesWell` says.
pub record Progress (first : ℕ) (begun : Store) (files : List JobFile) (ended : ℕ) (places : ℕ → ℕ)
    (given : ℕ) (now : Store) : Type 0 where
  pub entries : List FileCall
  pub calls : now.calls ≡ begun.calls ++ entries
  pub well : GoesWell first files ended places given now entries

-- those files were given, and then this call failed, on the n-th of all: it asked for one more file, which is the last
-- of all and wasn't given, or it read or wrote the n-th of those
pub data Fails (first ended : ℕ) (files : List JobFile) (n : ℕ) (those : List JobFile) (last : FileCall) : Type 0 where
  refused : (f : JobFile) → files ≡ those ++ f ∷ [] → n ≡ length those → IsRefusedAsking f last
      → Fails first ended files n those last
  failed : files ≡ those → n < length those → IsFailedUse (first + n) (first + ended) last
      → Fails first ended files n those last

-- Since the job began exactly these files were asked for, and the last call of all failed: it was on the n-th of them.
-- All calls before it went well.
pub record Stuck (first : ℕ) (begun : Store) (files : List JobFile) (ended n : ℕ) (places : ℕ → ℕ)
    (given : ℕ) (now : Store) : Type 0 where
  pub those : List JobFile
  pub before : List FileCall
  pub last : FileCall
  pub calls : now.calls ≡ begun.calls ++ (before ++ last ∷ [])
  pub well : GoesWell first those ended places given now before
  pub fails : Fails first ended files n those last
