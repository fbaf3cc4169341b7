-- The limits of a net and of its delays, a name each.
use Rattle.std.specs.Prelude.{ℕ, ◌^◌}

-- a net has at most this many tensors
abbrev pub most_tensors : ℕ
most_tensors = 512

-- a net has at most this many reads
abbrev pub most_reads : ℕ
most_reads = 16384

-- a tensor is at most this many bits wide
abbrev pub most_bits : ℕ
most_bits = 64

-- an offset is at most this many cells ahead or back
abbrev pub most_offset : ℕ
most_offset = 2 ^ 42

-- a delay that the code is given is below this many cycles
abbrev pub delay_end : ℕ
delay_end = 2 ^ 62
