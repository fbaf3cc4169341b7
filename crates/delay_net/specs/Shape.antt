-- What a net is: tensors with their widths, and reads of one by another.
use Rattle.std.specs.Prelude.{ℕ, ◌<◌, ◌≤◌, pos, neg_ℤ, ◌≤ℤ◌, List, length}
use Rattle.std.specs.List.{All}
use Rattle.delay_net.specs.Limits.{most_tensors, most_reads, most_bits, most_offset}
use Rattle.delay_net.specs.declared.net.Read.{Read}

-- the widths of the tensors in bits, and the reads, both in order
pub record Shape : Type 0 where
  pub weights : List ℕ
  pub reads : List Read

-- a width is from 1 to 64 bits
abbrev pub IsWidth : ℕ → Type 0
IsWidth width = (1 ≤ width) × (width ≤ most_bits)

-- a tensor reads earlier tensors alone
abbrev pub IsInOrder : List ℕ → Read → Type 0
IsInOrder weights read = (read.of < read.reader) × (read.reader < length weights)

-- an offset is within plus or minus 2 ^ 42
abbrev pub HasSmallOffset : Read → Type 0
HasSmallOffset read = (neg_ℤ (pos most_offset) ≤ℤ read.offset) × (read.offset ≤ℤ pos most_offset)

-- a net: at most 512 tensors, at most 16,384 reads
pub record IsNet (weights : List ℕ) (reads : List Read) : Type 0 where
  pub few_tensors : length weights ≤ most_tensors
  pub widths : All IsWidth weights
  pub few_reads : length reads ≤ most_reads
  pub order : All (IsInOrder weights) reads
  pub offsets : All HasSmallOffset reads
