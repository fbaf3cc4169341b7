-- What the entries that a call adds to a journal say, in forms that are put together part by part.
use Rattle.std.specs.Prelude.{◌≡◌, ◌==◌, ℕ, ◌<◌, if◌then◌else◌, List, [], ◌∷◌, Some, None, All, IsNone, ⊤}
use Rattle.std.specs.Prelude.{Option}
use Rattle.soda_io.specs.declared.call.FileCall.{FileCall}
use Rattle.soda_io.specs.declared.call.FileCall.TheVariants.{Open, Create, Read, Write}

-- a call that answered `Failed`
abbrev pub IsFailed : FileCall → Type 0
IsFailed (Open name id) = IsNone id
IsFailed (Create name id) = IsNone id
IsFailed (Read id asked got) = IsNone got
IsFailed (Write id given taken) = IsNone taken

-- a read by this id
abbrev pub IsReadBy : ℕ → FileCall → Type 0
IsReadBy id (Open name i) = ⊥
IsReadBy id (Create name i) = ⊥
IsReadBy id (Read i asked got) = i ≡ id
IsReadBy id (Write i given taken) = ⊥

-- a write by this id
abbrev pub IsWriteBy : ℕ → FileCall → Type 0
IsWriteBy id (Open name i) = ⊥
IsWriteBy id (Create name i) = ⊥
IsWriteBy id (Read i asked got) = ⊥
IsWriteBy id (Write i given taken) = i ≡ id

-- a read by this id that got some bytes
abbrev pub IsGot : ℕ → FileCall → Type 0
IsGot id (Open name i) = ⊥
IsGot id (Create name i) = ⊥
IsGot id (Read i asked (Some n)) = (i ≡ id) × (0 < n)
IsGot id (Read i asked None) = ⊥
IsGot id (Write i given taken) = ⊥

-- a write by this id that took some bytes
abbrev pub IsTaken : ℕ → FileCall → Type 0
IsTaken id (Open name i) = ⊥
IsTaken id (Create name i) = ⊥
IsTaken id (Read i asked got) = ⊥
IsTaken id (Write i given (Some n)) = (i ≡ id) × (0 < n)
IsTaken id (Write i given None) = ⊥

-- what the reads of an id got, in order: None where one failed
abbrev pub gots : ℕ → List FileCall → List (Option ℕ)
gots id [] = []
gots id (Open name i ∷ es) = gots id es
gots id (Create name i ∷ es) = gots id es
gots id (Read i asked got ∷ es) = if i == id then (got ∷ gots id es) else gots id es
gots id (Write i given taken ∷ es) = gots id es

-- a 0, which a read gets at the end, stands nowhere but last
abbrev pub NoneAfterEnd : List (Option ℕ) → Type 0
NoneAfterEnd [] = ⊤
NoneAfterEnd (g ∷ gs) = (g ≡ Some 0 → gs ≡ []) × NoneAfterEnd gs

-- no entry follows a failed one
abbrev pub NoneAfterFailed : List FileCall → Type 0
NoneAfterFailed [] = ⊤
NoneAfterFailed (e ∷ es) = (IsFailed e → es ≡ []) × NoneAfterFailed es

-- there is a last entry, and it is a failed one
abbrev pub EndsFailed : List FileCall → Type 0
EndsFailed [] = ⊥
EndsFailed (e ∷ []) = IsFailed e
EndsFailed (e ∷ f ∷ es) = EndsFailed (f ∷ es)

-- reads by one id: none follows one that failed, or one that met the end
pub record ReadsOf (id : ℕ) (entries : List FileCall) : Type 0 where
  pub own : All (IsReadBy id) entries
  pub failed : NoneAfterFailed entries
  pub end : NoneAfterEnd (gots id entries)

-- writes by one id: none follows one that failed
pub record WritesOf (id : ℕ) (entries : List FileCall) : Type 0 where
  pub own : All (IsWriteBy id) entries
  pub failed : NoneAfterFailed entries
