-- How far a read of a file looks ahead, and a write lags behind.
use Rattle.std.specs.Prelude.{ℕ, ◌+◌, ◌-◌, ◌*◌, ◌/◌, min, List, length, take}
use Rattle.soda_words.specs.IntType.{IntType}
use Rattle.array_bytes.specs.Sizes.{cell_size, word_cells, text_block}
use Rattle.array_bytes.specs.Runs.{ended_runs}
use Rattle.array_bytes.specs.declared.form.Form.{Form}
use Rattle.array_bytes.specs.declared.form.Form.TheVariants.{Text, Raw}

-- the cells of a block: in raw form those of a burst word of so many bits, in a text 4,096
abbrev pub block_cells : Form → IntType → ℕ → ℕ
block_cells Text t burst = text_block
block_cells Raw t burst = word_cells t burst

-- the number of a read that begins at this place of a file's bytes: in a text how many cells have ended in the bytes
-- before it, in raw form the first cell of the word in which it begins; a block has so many cells
unfoldable pub read_number : Form → IntType → ℕ → List ℕ → ℕ → ℕ
read_number Text t block bytes place = length (ended_runs (take place bytes))
read_number Raw t block bytes place = place / cell_size t / block * block

-- the bytes that a read at this place asks for at the most, of a file of n cells: in a text those of the buffer, in raw
-- form the rest of the word and of the cells
unfoldable pub most_asked : Form → IntType → ℕ → ℕ → ℕ → ℕ
most_asked Text t block n place = text_block
most_asked Raw t block n place =
    min ((place / cell_size t / block + 1) * block) n * cell_size t - place

-- the same at the end, behind all cells
abbrev pub most_asked_at_end : Form → ℕ
most_asked_at_end Text = text_block
most_asked_at_end Raw = 1
