-- The bytes that cells are written as.
use Rattle.std.specs.Prelude.{ℕ, suc, ◌+◌, ◌-◌, ◌*◌, ◌^◌, ◌%◌, ◌==◌, if◌then◌else◌, List, [], ◌∷◌, ◌++◌, ℤ, pos, negsuc}
use Rattle.std.specs.Fmt.{signed_decimal}
use Rattle.byteorder.specs.Endian.{little_bytes}
use Rattle.soda_words.specs.IntType.{IntType}
use Rattle.array_bytes.specs.Sizes.{cell_size}
use Rattle.array_bytes.specs.declared.form.Form.{Form}
use Rattle.array_bytes.specs.declared.form.Form.TheVariants.{Text, Raw}

-- what stands before cell number i of a text, where a line has `run` cells: nothing before the first, a line feed where
-- a line begins, else a blank
abbrev pub parting : ℕ → ℕ → List ℕ
parting run i = if i == 0 then [] else (if i % run == 0 then 10 ∷ [] else 32 ∷ [])

-- cells in decimal, each behind what stands before it; the first of them has the number i
abbrev pub text_from : ℕ → ℕ → List ℤ → List ℕ
text_from run i [] = []
text_from run i (c ∷ cs) = (parting run i ++ signed_decimal c) ++ text_from run (i + 1) cs

-- the line feed at the end of a text that has a cell
abbrev pub last_line_feed : List ℤ → List ℕ
last_line_feed [] = []
last_line_feed (c ∷ cs) = 10 ∷ []

-- the two's complement of `size` bytes, as a number
abbrev pub complement : ℕ → ℤ → ℕ
complement size (pos v) = v
complement size (negsuc v) = 2 ^ (8 * size) - suc v

-- a raw cell: its two's complement, least significant byte first
unfoldable pub raw_bytes : IntType → ℤ → List ℕ
raw_bytes t c = little_bytes (cell_size t) (complement (cell_size t) c)

-- raw cells one after the other
abbrev pub raw_cells : IntType → List ℤ → List ℕ
raw_cells t [] = []
raw_cells t (c ∷ cs) = raw_bytes t c ++ raw_cells t cs

-- the bytes that every list of cells which begins with these begins with
unfoldable pub begun : Form → IntType → ℕ → List ℤ → List ℕ
begun Text t run cells = text_from run 0 cells
begun Raw t run cells = raw_cells t cells

-- what follows them where there are no more cells
abbrev pub ending : Form → List ℤ → List ℕ
ending Text cells = last_line_feed cells
ending Raw cells = []

-- the bytes of a list of cells, where a line of a text has `run` of them
unfoldable pub array_bytes : Form → IntType → ℕ → List ℤ → List ℕ
array_bytes form t run cells = begun form t run cells ++ ending form cells
