-- The sizes that the bytes of an array are counted by.
use Rattle.std.specs.Prelude.{ℕ, ◌+◌, ◌*◌, ◌/◌, nat_le, if◌then◌else◌}
use Rattle.soda_words.specs.IntType.{IntType}
use Rattle.array_bytes.specs.Limits.{most_run, spare_bytes}

-- the bytes of a cell in raw form: the least of 1, 2, 4 and 8 that holds the type's width
unfoldable pub cell_size : IntType → ℕ
cell_size t = if nat_le t.bits 8 then 1 else (if nat_le t.bits 16 then 2 else (if nat_le t.bits 32 then 4 else 8))

-- the cells of a burst word of so many bits
abbrev pub word_cells : IntType → ℕ → ℕ
word_cells t burst = burst / (8 * cell_size t)

-- the bytes of a text of n cells, at the most
abbrev pub most_bytes : ℕ → ℕ
most_bytes n = most_run * n + spare_bytes

-- the cells that a text's reader or writer holds back, at the most, and one: the bytes of its buffer
abbrev pub text_block : ℕ
text_block = 4096
