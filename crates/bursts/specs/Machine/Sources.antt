-- How a reader stands to the bytes of its file.
use Rattle.std.specs.Prelude.{◌≡◌, ℕ, ◌+◌, ◌-◌, ◌*◌, ◌≤◌, ◌<◌, min, Bool, true, false, List, [], ◌∷◌, ◌++◌, length, ℤ, ⊤}
use Rattle.std.specs.Prelude.{Option, Some, None}
use Rattle.std.specs.Prelude.{Result, Ok, Err}
use Rattle.array_bytes.specs.Machine.Scans.{FailsAfter, IsRawOf, IsScanOf}
use Rattle.array_bytes.specs.Sizes.{text_block}
use Rattle.array_bytes.specs.declared.form.Form.TheVariants as form
use Rattle.array_bytes.specs.declared.fault.CellFault.{CellFault}
use Rattle.array_bytes.specs.declared.text_scan.Found.{Found}
use Rattle.array_bytes.specs.declared.text_scan.Found.TheVariants.{Nothing, Cell, Fault}
use Rattle.bursts.specs.Blocks.{Kind}
use Rattle.bursts.specs.Machine.Calls.{IsOfRead}
use Rattle.bursts.specs.Machine.Feeds.{FeedsOn, unread}
use Rattle.bursts.specs.declared.text_reader.TextReader.{TextReader}
use Rattle.bursts.specs.declared.raw_reader.RawReader.{RawReader}
use Rattle.bursts.specs.declared.source.Source.{Source}
use Rattle.bursts.specs.declared.source.Source.TheVariants.{Text, Raw}

-- a text's reader that gave these cells
pub record TextAt (r : TextReader) (bytes : List ℕ) (place : ℕ) (cells : List ℤ) : Type 0 where
  pub closed : Bool
  pub used : List ℕ
  pub feeds : FeedsOn r.feed used bytes place
  pub scan : IsScanOf closed r.scan used cells
  -- the last cell was ended by the end of the file
  pub over : closed ≡ true → (r.feed.ended ≡ true) × (unread r.feed ≡ [])

-- the bytes of the cells of a word that are still to come
abbrev pub rest_of : RawReader → ℕ
rest_of r = (min (r.first + r.word) r.cells - r.number) * r.size

-- what stays the same of a reader of raw cells
pub record KeepsRaw (old new : RawReader) : Type 0 where
  pub ty : new.ty ≡ old.ty
  pub size : new.size ≡ old.size
  pub word : new.word ≡ old.word
  pub cells : new.cells ≡ old.cells

-- a reader of raw cells that gave these cells
pub record RawAt (r : RawReader) (bytes : List ℕ) (place : ℕ) (cells : List ℤ) : Type 0 where
  pub used : List ℕ
  pub feeds : FeedsOn r.feed used bytes place
  pub raw : IsRawOf r.ty r.cells used cells
  pub count : r.number ≡ length cells
  -- what was read but not used is of the word
  pub few : length (unread r.feed) ≤ rest_of r

-- either of them
abbrev pub SourceAt : Source → List ℕ → ℕ → List ℤ → Type 0
SourceAt (Text r) bytes place cells = TextAt r bytes place cells
SourceAt (Raw r) bytes place cells = RawAt r bytes place cells

-- what a text's reader was made for
abbrev pub text_kind : TextReader → ℕ → Kind
text_kind r id = record { form = form.Text; ty = r.scan.ty; cells = r.scan.cells; block = text_block; id = id }

-- what a reader of raw cells was made for
abbrev pub raw_kind : RawReader → ℕ → Kind
raw_kind r id = record { form = form.Raw; ty = r.ty; cells = r.cells; block = r.word; id = id }

-- there are bytes that aren't used, or the end was met
abbrev pub HasBytes : TextReader → Result Bool CellFault → Type 0
HasBytes r (Ok true) = r.feed.start < r.feed.filled
HasBytes r (Ok false) = (r.feed.ended ≡ true) × (r.feed.start ≡ r.feed.filled)
HasBytes r (Err f) = IsOfRead f

-- the end was met where there is no further cell
abbrev pub IsAtEnd : TextReader → Result (Option ℤ) CellFault → Type 0
IsAtEnd r (Ok None) = (r.feed.ended ≡ true) × (r.feed.start ≡ r.feed.filled)
IsAtEnd r (Ok (Some v)) = ⊤
IsAtEnd r (Err f) = ⊤

-- where nothing was found all bytes are used, and fewer may come
abbrev pub WasScanned : (old_left new_left start filled : ℕ) → Found → Type 0
WasScanned old_left new_left start filled Nothing = (new_left < old_left) × (start ≡ filled)
WasScanned old_left new_left start filled (Cell v) = ⊤
WasScanned old_left new_left start filled (Fault f) = ⊤

-- what scanning gives of a file
abbrev pub ScansOn : TextReader → List ℕ → ℕ → List ℤ → Found → Type 0
ScansOn r bytes place cells Nothing = TextAt r bytes place cells
ScansOn r bytes place cells (Cell v) = TextAt r bytes place (cells ++ v ∷ [])
ScansOn r bytes place cells (Fault f) = FailsAfter form.Text r.scan.ty r.scan.cells bytes cells f

-- the next cell was read, or the file ends before it
abbrev pub HasCell : RawReader → Result Bool CellFault → Type 0
HasCell r (Ok true) = r.size ≤ r.feed.filled - r.feed.start
HasCell r (Ok false) = (r.feed.ended ≡ true) × (r.feed.filled - r.feed.start < r.size)
HasCell r (Err f) = IsOfRead f
