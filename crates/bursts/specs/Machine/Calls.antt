-- What the calls of a reader's source answer.
use Rattle.std.specs.Prelude.{◌≡◌, ℕ, ◌+◌, ◌<◌, ◌≤◌, Bool, true, false, List, [], ◌∷◌, ◌++◌, length, take, ℤ, All, ⊤}
use Rattle.std.specs.Prelude.{Option, Some, None}
use Rattle.std.specs.Prelude.{Result, Ok, Err}
use Rattle.soda_words.specs.IntType.{IntType}
use Rattle.int_types.specs.Ranges.{InRange}
use Rattle.array_bytes.specs.Machine.Scans.{FailsAfter, IsWhole}
use Rattle.array_bytes.specs.declared.form.Form.{Form}
use Rattle.array_bytes.specs.declared.fault.CellFault.{CellFault}
use Rattle.array_bytes.specs.declared.fault.CellFault.TheVariants.{BadCell, CellRange, TooFew, TooMany, TooLong, Failed, Memory}
use Rattle.bursts.specs.Blocks.{Kind}

-- a fault of a read itself is free, and any other is the file's, behind these good cells
abbrev pub FaultIs : Kind → List ℕ → List ℤ → CellFault → Type 0
FaultIs k bytes cells Failed = ⊤
FaultIs k bytes cells Memory = ⊤
FaultIs k bytes cells f = FailsAfter k.form k.ty k.cells bytes cells f

-- only a fault of a read
abbrev pub IsOfRead : CellFault → Type 0
IsOfRead Failed = ⊤
IsOfRead Memory = ⊤
IsOfRead f = ⊥

-- whether there was more, or a fault of a read
abbrev pub OrReadFault : {T : Type 0} → (T → Type 0) → Result T CellFault → Type 0
OrReadFault P (Ok v) = P v
OrReadFault P (Err f) = IsOfRead f

-- one more cell, or the end of the file, where `At cells` says that these cells were given
abbrev pub NextIs : (List ℤ → Type 0) → Kind → List ℕ → List ℤ → Result (Option ℤ) CellFault → Type 0
NextIs At k bytes cells (Ok None) = At cells
NextIs At k bytes cells (Ok (Some v)) = At (cells ++ v ∷ [])
NextIs At k bytes cells (Err f) = FaultIs k bytes cells f

-- one more cell
abbrev pub OneIs : (List ℤ → Type 0) → Kind → List ℕ → List ℤ → Result ℤ CellFault → Type 0
OneIs At k bytes cells (Ok v) = At (cells ++ v ∷ [])
OneIs At k bytes cells (Err f) = FaultIs k bytes cells f

-- a fault behind these cells or some more, but fewer than `bound`
pub record FailsBelow (k : Kind) (bytes : List ℕ) (bound : ℕ) (fault : CellFault) : Type 0 where
  pub cells : List ℤ
  pub below : length cells < bound
  pub is : FaultIs k bytes cells fault

-- a block of cells
abbrev pub SomeAre : (List ℤ → Type 0) → Kind → List ℕ → List ℤ → List ℤ → Result (Unit {0}) CellFault → Type 0
SomeAre At k bytes cells block (Ok u) = At (cells ++ block)
SomeAre At k bytes cells block (Err f) = FailsBelow k bytes (length cells + length block) f

-- the end
abbrev pub EndOf : (List ℤ → Type 0) → Kind → List ℕ → List ℤ → Result (Unit {0}) CellFault → Type 0
EndOf At k bytes cells (Ok u) = At cells × IsWhole k.form k.ty k.cells bytes cells
EndOf At k bytes cells (Err f) = FaultIs k bytes cells f

-- the number of cells goes up by one at a cell
abbrev pub StepsOne : ℕ → ℕ → Result ℤ CellFault → Type 0
StepsOne old new (Ok v) = new ≡ old + 1
StepsOne old new (Err f) = new ≡ old

abbrev pub StepsNext : ℕ → ℕ → Result (Option ℤ) CellFault → Type 0
StepsNext old new (Ok None) = new ≡ old
StepsNext old new (Ok (Some v)) = new ≡ old + 1
StepsNext old new (Err f) = new ≡ old

-- a cell that was read is in range
abbrev pub IfNext : (ℤ → Type 0) → Result (Option ℤ) CellFault → Type 0
IfNext P (Ok (Some v)) = P v
IfNext P (Ok None) = ⊤
IfNext P (Err f) = ⊤
