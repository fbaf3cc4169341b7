-- What a simulation asks of the files, once its inputs are opened and its outputs created: reads by the ids of the
-- inputs, and writes by those of the outputs.
use Rattle.std.specs.Prelude.{◌≡◌, ◌<◌, ℕ, All, Contains, List, [], ◌∷◌, ◌++◌, Option, Some, None}
use Rattle.soda_io.specs.declared.call.FileCall.{FileCall}
use Rattle.soda_io.specs.declared.call.FileCall.TheVariants.{Open, Create, Read, Write}
use Rattle.soda_io.specs.Store.{KeepsIds, Store}
use Rattle.whole_files.specs.Journal.{IsFailed, NoneAfterEnd, NoneAfterFailed, gots}

-- a read by one of the inputs, or a write by one of the outputs
abbrev pub IsUse : (inputs outputs : List ℕ) → FileCall → Type 0
IsUse inputs outputs (Open name id) = ⊥
IsUse inputs outputs (Create name id) = ⊥
IsUse inputs outputs (Read id asked got) = Contains inputs id
IsUse inputs outputs (Write id given taken) = Contains outputs id

-- no call failed
abbrev pub NoneFailed : List FileCall → Type 0
NoneFailed entries = All (λ e. ¬ IsFailed e) entries

-- a read or a write by this id that failed
abbrev pub FailedBy : (id : ℕ) → FileCall → Type 0
FailedBy id (Open name i) = ⊥
FailedBy id (Create name i) = ⊥
FailedBy id (Read i asked None) = i ≡ id
FailedBy id (Read i asked (Some n)) = ⊥
FailedBy id (Write i given None) = i ≡ id
FailedBy id (Write i given (Some n)) = ⊥

-- the last call of all failed, and it was by this id
pub record EndWithFault (id : ℕ) (entries : List FileCall) : Type 0 where
  pub before : List FileCall
  pub last : FileCall
  pub are : entries ≡ before ++ last ∷ []
  pub fine : NoneFailed before
  pub failed : FailedBy id last

-- the last of these reads met the end of its file
pub record EndsMet (gs : List (Option ℕ)) : Type 0 where
  pub before : List (Option ℕ)
  pub last : gs ≡ before ++ Some 0 ∷ []

-- Between two states of the files exactly these calls were made: uses of the inputs and outputs. None follows a failed
-- one, and no read of an id follows one of it that got 0. The names of all ids stay, and the places of all but inputs.
pub record Uses (inputs outputs : List ℕ) (given : ℕ) (old new : Store) (entries : List FileCall) : Type 0 where
  pub calls : new.calls ≡ old.calls ++ entries
  pub own : All (IsUse inputs outputs) entries
  pub failed : NoneAfterFailed entries
  pub ends : (id : ℕ) → NoneAfterEnd (gots id entries)
  pub ids : KeepsIds given old new
  pub places : (id : ℕ) → id < given → ¬ Contains inputs id → new.place id ≡ old.place id
