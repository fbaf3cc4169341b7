-- What the calls of a reader and of a writer answer, and what they do to the files.
use Rattle.std.specs.Prelude.{◌≡◌, ◌≢◌, ◌↔◌, ℕ, ◌+◌, ◌<◌, ◌≤◌, Bool, true, false, List, [], ◌∷◌, ◌++◌, length, take, drop, ℤ, All, ⊤, IsErrOf, OnOk}
use Rattle.std.specs.Prelude.{Option, Some, None}
use Rattle.std.specs.Prelude.{Result, Ok, Err}
use Rattle.soda_words.specs.IntType.{IntType}
use Rattle.soda_io.specs.Cause.{Rose}
use Rattle.soda_io.specs.Store.{Store, KeepsIds, KeepsBytes, KeepsPlaces}
use Rattle.soda_io.specs.declared.call.FileCall.{FileCall}
use Rattle.soda_io.specs.declared.call.FileCall.TheVariants.{Open, Create, Read, Write}
use Rattle.soda_io.specs.declared.error.IoErr.{IoErr}
use Rattle.soda_io.specs.declared.error.IoErr.TheVariants as io
use Rattle.whole_files.specs.Journal.{EndsFailed, ReadsOf, WritesOf, gots}
use Rattle.array_bytes.specs.Arrays.{good_cells, first_fault}
use Rattle.array_bytes.specs.ReadNumber.{read_number, most_asked}
use Rattle.array_bytes.specs.declared.form.Form.{Form}
use Rattle.array_bytes.specs.declared.fault.CellFault.{CellFault}
use Rattle.array_bytes.specs.declared.fault.CellFault.TheVariants.{BadCell, CellRange, TooFew, TooMany, TooLong, Failed, Memory}

-- what a reader was made for: the form, the type, the cells of the file, the cells of a block, and the id
pub record Kind : Type 0 where
  pub form : Form
  pub ty : IntType
  pub cells : ℕ
  pub block : ℕ
  pub id : ℕ

-- the good cells of a file with these bytes
abbrev pub cells_in : Kind → List ℕ → List ℤ
cells_in k bytes = good_cells k.form k.ty k.cells bytes

-- its first fault
abbrev pub fault_in : Kind → List ℕ → Option CellFault
fault_in k bytes = first_fault k.form k.ty k.cells bytes

-- the next cells behind those given before: Ok exactly where all of them are good, and else the first fault
abbrev pub BlockIs : Kind → List ℕ → ℕ → List ℤ → Result (Unit {0}) CellFault → Type 0
BlockIs k bytes given block (Ok u) =
    (given + length block ≤ length (cells_in k bytes)) × (block ≡ take (length block) (drop given (cells_in k bytes)))
BlockIs k bytes given block (Err Failed) = ⊤
BlockIs k bytes given block (Err Memory) = ⊤
BlockIs k bytes given block (Err f) =
    (fault_in k bytes ≡ Some f) × (length (cells_in k bytes) < given + length block)

-- the end of a file whose cells are all good: Ok exactly where it has no fault
abbrev pub EndIs : Kind → List ℕ → Result (Unit {0}) CellFault → Type 0
EndIs k bytes (Ok u) = (fault_in k bytes ≡ None) × (length (cells_in k bytes) ≡ k.cells)
EndIs k bytes (Err Failed) = ⊤
EndIs k bytes (Err Memory) = ⊤
EndIs k bytes (Err f) = (fault_in k bytes ≡ Some f) × (length (cells_in k bytes) ≡ k.cells)

-- a reader that has answered an Err answers it again
abbrev pub Repeats : Option CellFault → Result (Unit {0}) CellFault → Type 0
Repeats None result = ⊤
Repeats (Some f) result = result ≡ Err f

-- the Err of an answer
abbrev pub err_of : {T : Type 0} → Result T CellFault → Option CellFault
err_of (Ok v) = None
err_of (Err f) = Some f

-- this is the first Err of a reader, and a read failed
abbrev pub FailsNow : Option CellFault → Result (Unit {0}) CellFault → Type 0
FailsNow before result = (before ≡ None) × IsErrOf result Failed

-- the count of faults doesn't fall, rises only where a read fails or asks for memory, and rose where one failed
pub record ReadCause {T : Type 0} (fault : Option CellFault) (before now : ℕ) (result : Result T CellFault)
    : Type 0 where
  pub later : before ≤ now
  pub kept : result ≢ Err Failed → result ≢ Err Memory → now ≡ before
  pub kept_again : fault ≢ None → now ≡ before
  pub failed : fault ≡ None → IsErrOf result Failed → Rose before now

-- what a read got: nothing where it failed
abbrev pub amount : Option ℕ → ℕ
amount None = 0
amount (Some n) = n

-- the place behind some reads
abbrev pub place_behind : ℕ → List FileCall → ℕ
place_behind place [] = place
place_behind place (Open name id ∷ es) = place_behind place es
place_behind place (Create name id ∷ es) = place_behind place es
place_behind place (Read id asked got ∷ es) = place_behind (place + amount got) es
place_behind place (Write id given taken ∷ es) = place_behind place es

-- each read of some entries begins at a place and asks for so many bytes as P allows, where the first begins at this
-- place and each next one behind what it got
abbrev pub EachRead : (ℕ → ℕ → Type 0) → ℕ → List FileCall → Type 0
EachRead P place [] = ⊤
EachRead P place (Open name id ∷ es) = EachRead P place es
EachRead P place (Create name id ∷ es) = EachRead P place es
EachRead P place (Read id asked got ∷ es) = P place asked × EachRead P (place + amount got) es
EachRead P place (Write id given taken ∷ es) = EachRead P place es

-- a read that a block may want whose cells have numbers below `bound`: its own number is below it too, and it asks for
-- no more than the rest of a block
pub record IsWanted (k : Kind) (bytes : List ℕ) (bound place asked : ℕ) : Type 0 where
  pub number : read_number k.form k.ty k.block bytes place < bound
  pub size : asked ≤ most_asked k.form k.ty k.block k.cells place

-- the last of these reads met the end
abbrev pub EndsLast : List (Option ℕ) → Type 0
EndsLast gs = (before : List (Option ℕ)) × (gs ≡ before ++ Some 0 ∷ [])

-- reads by one id and nothing else: none where the end was met before, and else the last met it exactly where it is met
-- after
pub record ReadsOn (given : ℕ) (old new : Store) (id : ℕ) (before after : Bool) (fails : Type 0) (P : ℕ → ℕ → Type 0)
    : Type 0 where
  pub ids : KeepsIds given old new
  pub bytes : KeepsBytes old new
  pub others : (k : ℕ) → k < given → k ≢ id → new.place k ≡ old.place k
  -- the journal's new entries
  pub entries : List FileCall
  pub calls : new.calls ≡ old.calls ++ entries
  pub reads : ReadsOf id entries
  pub quiet : before ≡ true → entries ≡ []
  pub going : after ≡ false → All (λ g. g ≢ Some 0) (gots id entries)
  pub met : before ≡ false → after ≡ true → EndsLast (gots id entries)
  pub failed : fails ↔ EndsFailed entries
  pub stays : before ≡ true → after ≡ true
  pub each : EachRead P (old.place id) entries
  pub place : new.place id ≡ place_behind (old.place id) entries

-- writes by one id and nothing else
pub record WritesOn (given : ℕ) (old new : Store) (id : ℕ) (result : Result (Unit {0}) IoErr) : Type 0 where
  pub ids : KeepsIds given old new
  pub places : KeepsPlaces given old new
  pub others : (n : List ℕ) → n ≢ old.name id → new.bytes n ≡ old.bytes n
  pub entries : List FileCall
  pub calls : new.calls ≡ old.calls ++ entries
  pub writes : WritesOf id entries
  pub failed : IsErrOf result io.Failed ↔ EndsFailed entries
