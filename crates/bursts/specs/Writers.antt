-- What a writer stands for.
use Rattle.std.specs.Prelude.{◌≡◌, ℕ, ◌+◌, ◌%◌, ◌/◌, ◌<◌, nat_lt, vec_len, false, List, ◌++◌, length, take, ℤ}
use Rattle.std.specs.Prelude.{Option, Some, None}
use Rattle.std.specs.Prelude.{Result, Ok, Err}
use Rattle.soda_words.specs.IntType.{IntType}
use Rattle.soda_io.specs.declared.error.IoErr.{IoErr}
use Rattle.array_bytes.specs.Sizes.{cell_size, text_block}
use Rattle.array_bytes.specs.Written.{array_bytes, begun}
use Rattle.array_bytes.specs.declared.form.Form.{Form}
use Rattle.array_bytes.specs.declared.form.Form.TheVariants.{Text, Raw}
use Rattle.bursts.specs.declared.writer.CellWriter.{CellWriter}

-- what a writer was made for: the form, the type, the cells of a line, the cells of a block, and the id
pub record Output : Type 0 where
  pub form : Form
  pub ty : IntType
  pub run : ℕ
  pub block : ℕ
  pub id : ℕ

-- the cells of its block
abbrev pub block_of : Form → IntType → ℕ → ℕ
block_of Text t full = text_block
block_of Raw t full = full / cell_size t

abbrev pub output : CellWriter → Output
output w = record { form = w.form; ty = w.ty; run = w.run; block = block_of w.form w.ty w.full; id = w.id }

-- the first of two lists is a prefix of the second
pub record IsPrefix (front whole : List ℕ) : Type 0 where
  pub rest : List ℕ
  pub same : whole ≡ front ++ rest

-- how many of the cells put aren't in the file: fewer than a block has, and raw cells those behind the last whole word
abbrev pub IsLate : Form → ℕ → ℕ → ℕ → Type 0
IsLate Text block put late = late < block
IsLate Raw block put late = late ≡ put % block

-- so many of the cells aren't in the file yet, whose bytes are those of the others
pub record Lags (o : Output) (cells : List ℤ) (bytes : List ℕ) : Type 0 where
  -- how many are there
  pub there : ℕ
  pub late : ℕ
  pub all : there + late ≡ length cells
  pub written : bytes ≡ begun o.form o.ty o.run (take there cells)
  pub few : IsLate o.form o.block (length cells) late

-- the line of a text, behind these cells
abbrev pub LineIs : Form → CellWriter → List ℤ → Type 0
LineIs Text w cells =
    (w.begun ≡ nat_lt 0 (length cells)) × (w.column ≡ length cells % w.run) × (vec_len w.buffer < text_block)
LineIs Raw w cells = w.begun ≡ false

-- a writer has put these cells into a file with these bytes
pub record HasPut (w : CellWriter) (cells : List ℤ) (bytes : List ℕ) : Type 0 where
  pub lags : Lags (output w) cells bytes
  -- with what isn't written yet they are all
  pub buffered : bytes ++ w.buffer.items ≡ begun w.form w.ty w.run cells
  pub line : LineIs w.form w cells

-- what a file holds after more cells, those behind the ones before
abbrev pub Puts : CellWriter → List ℤ → List ℤ → Option (List ℕ) → Result (Unit {0}) IoErr → Type 0
Puts w before cells None result = ⊥
Puts w before cells (Some bytes) (Ok u) = HasPut w (before ++ cells) bytes
Puts w before cells (Some bytes) (Err e) = IsPrefix bytes (begun w.form w.ty w.run (before ++ cells))

-- what it holds in the end
abbrev pub Finishes : Output → List ℤ → Option (List ℕ) → Result (Unit {0}) IoErr → Type 0
Finishes o cells None result = ⊥
Finishes o cells (Some bytes) (Ok u) = bytes ≡ array_bytes o.form o.ty o.run cells
Finishes o cells (Some bytes) (Err e) = IsPrefix bytes (array_bytes o.form o.ty o.run cells)
