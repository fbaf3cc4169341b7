-- What is kept of the bytes of a text that were taken so far.
use Rattle.std.specs.Prelude.{◌≡◌, ℕ, ◌+◌, ◌*◌, ◌^◌, ◌≤◌, min, Bool, true, false, if◌then◌else◌, List, [], ◌∷◌, ◌++◌, map, length, take, ℤ, All, ⊤}
use Rattle.std.specs.Prelude.{Option, Some, None}
use Rattle.std.specs.Prelude.{Result, Ok, Err}
use Rattle.std.specs.List.{list_all}
use Rattle.soda_words.specs.IntType.{IntType}
use Rattle.soda_words.specs.Names.{is_digit}
use Rattle.soda_words.specs.Tokens.{value_behind}
use Rattle.int_types.specs.Ranges.{InRange}
use Rattle.array_bytes.specs.Sizes.{cell_size, most_bytes}
use Rattle.array_bytes.specs.Runs.{runs, ended_runs, open_run, whole_cells}
use Rattle.array_bytes.specs.Values.{begins_minus, behind_sign, is_cell, is_of, raw_value, text_value, with_sign}
use Rattle.array_bytes.specs.Arrays.{good_cells, first_fault}
use Rattle.array_bytes.specs.declared.form.Form.{Form}
use Rattle.array_bytes.specs.declared.form.Form.TheVariants.{Text}
use Rattle.array_bytes.specs.declared.fault.CellFault.{CellFault}
use Rattle.array_bytes.specs.declared.fault.CellFault.TheVariants.{BadCell, CellRange, Failed, Memory}
use Rattle.array_bytes.specs.declared.run.Run.{Run}
use Rattle.array_bytes.specs.declared.text_scan.Found.{Found}
use Rattle.array_bytes.specs.declared.text_scan.Found.TheVariants.{Nothing, Cell, Fault}
use Rattle.array_bytes.specs.declared.text_scan.TextScan.{TextScan}

-- a magnitude that stands for all beyond it
abbrev pub far : ℕ
far = 2 ^ 64

-- what is kept of a run is what its bytes say
pub record IsRunOf (r : Run) (bytes : List ℕ) : Type 0 where
  pub count : r.counted ≡ min (length bytes) 65
  pub sign : r.minus ≡ begins_minus bytes
  pub all : r.digits ≡ list_all is_digit (behind_sign bytes)
  pub value : r.digits ≡ true → r.magnitude ≡ min (value_behind 0 (behind_sign bytes)) far

-- the number of a run, if it is a cell, where none is farther from 0 than `far`
unfoldable pub near_value : List ℕ → Option ℤ
near_value run =
    if is_cell run then Some (with_sign (begins_minus run) (min (value_behind 0 (behind_sign run)) far)) else None

-- the answer about cell number i, whose bytes have this number, if any
abbrev pub Judges : IntType → ℕ → Option ℤ → Result ℤ CellFault → Type 0
Judges t i None (Ok v) = ⊥
Judges t i None (Err f) = f ≡ BadCell i
Judges t i (Some w) (Ok v) = (v ≡ w) × (is_of t w ≡ true)
Judges t i (Some w) (Err f) = (f ≡ CellRange i) × (is_of t w ≡ false)

-- the runs of a text whose end is known: all of them once the file has ended
abbrev pub known_runs : Bool → List ℕ → List (List ℕ)
known_runs closed bytes = if closed then runs bytes else ended_runs bytes

-- the run that may go on
abbrev pub going_run : Bool → List ℕ → List ℕ
going_run closed bytes = if closed then [] else open_run bytes

-- these bytes were taken of a text, and these are the cells that they hold
pub record IsScanOf (closed : Bool) (s : TextScan) (bytes : List ℕ) (cells : List ℤ) : Type 0 where
  pub spent : s.left + length bytes ≡ most_bytes s.cells
  pub values : map text_value (known_runs closed bytes) ≡ map (λ v. Some v) cells
  pub of_type : All (λ v. is_of s.ty v ≡ true) cells
  pub count : s.number ≡ length cells
  pub few : length cells ≤ s.cells
  pub going : IsRunOf s.run (going_run closed bytes)
  pub full : s.number ≡ s.cells → going_run closed bytes ≡ []

-- a file of n cells has these good cells and then this fault
pub record FailsAfter (form : Form) (t : IntType) (n : ℕ) (bytes : List ℕ) (cells : List ℤ) (fault : CellFault)
    : Type 0 where
  pub good : good_cells form t n bytes ≡ cells
  pub first : first_fault form t n bytes ≡ Some fault

-- a file of n cells has these, all of them good, and no fault
pub record IsWhole (form : Form) (t : IntType) (n : ℕ) (bytes : List ℕ) (cells : List ℤ) : Type 0 where
  pub good : good_cells form t n bytes ≡ cells
  pub first : first_fault form t n bytes ≡ None
  pub all : length cells ≡ n

-- these raw bytes are so many good cells of a file of n cells
pub record IsRawOf (t : IntType) (n : ℕ) (bytes : List ℕ) (cells : List ℤ) : Type 0 where
  pub whole : length bytes ≡ length cells * cell_size t
  pub values : map (raw_value t) (whole_cells (cell_size t) (length cells) bytes) ≡ cells
  pub of_type : All (λ v. is_of t v ≡ true) cells
  pub few : length cells ≤ n

-- the type and the number of cells stay
pub record KeepsKind (old new : TextScan) : Type 0 where
  pub ty : new.ty ≡ old.ty
  pub cells : new.cells ≡ old.cells

-- the number of cells found goes up where one was found
abbrev pub Counts : ℕ → ℕ → Found → Type 0
Counts old new Nothing = new ≡ old
Counts old new (Cell v) = new ≡ old + 1
Counts old new (Fault f) = new ≡ old

-- the same of a cell or a fault at a run's end
abbrev pub CountsOne : ℕ → ℕ → Result ℤ CellFault → Type 0
CountsOne old new (Ok v) = new ≡ old + 1
CountsOne old new (Err f) = new ≡ old

-- so many bytes were taken of those that may come
abbrev pub Spends : ℕ → ℕ → ℕ → Found → Type 0
Spends old new n Nothing = new + n ≡ old
Spends old new n (Cell v) = new + n ≡ old
Spends old new n (Fault f) = new ≤ old

-- a cell that was found is in range
abbrev pub IfCell : (ℤ → Type 0) → Found → Type 0
IfCell P Nothing = ⊤
IfCell P (Cell v) = P v
IfCell P (Fault f) = ⊤

-- a fault that a file has, and no read
abbrev pub IsOfFile : CellFault → Type 0
IsOfFile Failed = ⊥
IsOfFile Memory = ⊥
IsOfFile f = ⊤

-- a fact of a fault that was found
abbrev pub IfFault : (CellFault → Type 0) → Found → Type 0
IfFault P Nothing = ⊤
IfFault P (Cell v) = ⊤
IfFault P (Fault f) = P f

-- a fact of a fault that was answered
abbrev pub OrFault : (CellFault → Type 0) → Result ℤ CellFault → Type 0
OrFault P (Ok v) = ⊤
OrFault P (Err f) = P f

-- a fact where nothing was found
abbrev pub IfNothing : Type 0 → Found → Type 0
IfNothing P Nothing = P
IfNothing P (Cell v) = ⊤
IfNothing P (Fault f) = ⊤

-- one more byte after these
abbrev pub Takes : TextScan → List ℕ → ℕ → List ℤ → Found → Type 0
Takes s bytes b cells Nothing = IsScanOf false s (bytes ++ b ∷ []) cells
Takes s bytes b cells (Cell v) = IsScanOf false s (bytes ++ b ∷ []) (cells ++ v ∷ [])
Takes s bytes b cells (Fault f) = (rest : List ℕ) → FailsAfter Text s.ty s.cells (bytes ++ b ∷ rest) cells f

-- the first of some more bytes after these
abbrev pub Finds : TextScan → List ℕ → List ℕ → List ℤ → ℕ → Found → Type 0
Finds s bytes more cells n Nothing = (n ≡ length more) × IsScanOf false s (bytes ++ more) cells
Finds s bytes more cells n (Cell v) = IsScanOf false s (bytes ++ take n more) (cells ++ v ∷ [])
Finds s bytes more cells n (Fault f) = (rest : List ℕ) → FailsAfter Text s.ty s.cells ((bytes ++ more) ++ rest) cells f

-- the end of the file after these bytes
abbrev pub Closes : TextScan → List ℕ → List ℤ → Result ℤ CellFault → Type 0
Closes s bytes cells (Ok v) = IsScanOf true s bytes (cells ++ v ∷ [])
Closes s bytes cells (Err f) = FailsAfter Text s.ty s.cells bytes cells f
