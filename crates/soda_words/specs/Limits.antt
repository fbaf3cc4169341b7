-- The limits of the language, each by its one name.
use Rattle.std.specs.Prelude.{ℕ}

-- the bytes of a name
abbrev pub most_name : ℕ
most_name = 64

-- the tokens of a formula, without the minus signs of offsets
abbrev pub most_tokens : ℕ
most_tokens = 1500

-- the brackets open at once in a formula
abbrev pub most_brackets : ℕ
most_brackets = 64

-- the unroll factor
abbrev pub most_unroll : ℕ
most_unroll = 64

-- the iterations
abbrev pub most_iterate : ℕ
most_iterate = 64

-- the dimensions
abbrev pub most_dims : ℕ
most_dims = 4

-- the product of the fixed extents
abbrev pub most_tile : ℕ
most_tile = 16777216

-- the magnitude of a component of an offset
abbrev pub most_offset : ℕ
most_offset = 32768

-- the inputs, locals and outputs
abbrev pub most_tensors : ℕ
most_tensors = 512

-- the values of all params together
abbrev pub most_values : ℕ
most_values = 65536

-- the sizes of a param
abbrev pub most_sizes : ℕ
most_sizes = 2

-- the live staged tensors
abbrev pub most_live : ℕ
most_live = 512

-- the reads of the staged program
abbrev pub most_reads : ℕ
most_reads = 16384

-- the burst width in bits, at the least
abbrev pub least_burst : ℕ
least_burst = 8

-- the burst width in bits, at the most
abbrev pub most_burst : ℕ
most_burst = 8192

-- the bytes of a program text
abbrev pub most_text : ℕ
most_text = 1048576

-- the bytes of a canonical text
abbrev pub most_canonical : ℕ
most_canonical = 67108864

-- the cells of an array
abbrev pub most_cells : ℕ
most_cells = 16777216

-- the cells of the arrays of all tensors together
abbrev pub most_total : ℕ
most_total = 67108864
