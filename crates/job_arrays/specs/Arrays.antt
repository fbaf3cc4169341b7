-- What the bytes of a file say of an array, and how the arrays of a job stand in their files.
use Rattle.std.specs.Prelude.{◌≡◌, ℕ, ◌*◌, ◌%◌, ◌≤◌, List, Some, None, ℤ, Result, Ok, Err}
use Rattle.soda_words.specs.IntType.{IntType}
use Rattle.soda_words.specs.Limits.{least_burst, most_burst}
use Rattle.array_bytes.specs.Arrays.{first_fault, good_cells}
use Rattle.array_bytes.specs.Sizes.{cell_size}
use Rattle.array_bytes.specs.declared.fault.CellFault.{CellFault}
use Rattle.array_bytes.specs.declared.fault.CellFault.TheVariants.{BadCell, CellRange, TooFew, TooMany, TooLong, Failed, Memory}
use Rattle.array_bytes.specs.declared.form.Form.{Form}

-- the bytes are exactly n cells of the type, and these
abbrev pub IsGood : Form → IntType → ℕ → List ℕ → List ℤ → Type 0
IsGood form t n bytes cells = (first_fault form t n bytes ≡ None) × (good_cells form t n bytes ≡ cells)

-- this is the first fault of the bytes
abbrev pub IsFaulty : Form → IntType → ℕ → List ℕ → CellFault → Type 0
IsFaulty form t n bytes fault = first_fault form t n bytes ≡ Some fault

-- a fault of the bytes, and not of a call or of memory
abbrev pub IsOfBytes : CellFault → Type 0
IsOfBytes (BadCell i) = Unit {0}
IsOfBytes (CellRange i) = Unit {0}
IsOfBytes (TooFew n) = Unit {0}
IsOfBytes TooMany = Unit {0}
IsOfBytes TooLong = Unit {0}
IsOfBytes Failed = ⊥
IsOfBytes Memory = ⊥

-- a fact about a fault of the bytes
abbrev pub IfOfBytes : {T : Type 0} → Result T CellFault → (CellFault → Type 0) → Type 0
IfOfBytes (Ok v) P = Unit {0}
IfOfBytes (Err fault) P = IsOfBytes fault → P fault

-- whole cells of the type fill a burst of so many bits
pub record FillBurst (burst : ℕ) (t : IntType) : Type 0 where
  pub least : least_burst ≤ burst
  pub most : burst ≤ most_burst
  pub whole : burst % (8 * cell_size t) ≡ 0
