-- Delay assignments, which give each tensor a whole number of at least 0; windows, ages and storage.
use Rattle.std.specs.Prelude.{◌≡◌, ◌==◌, ℕ, ◌*◌, ◌<◌, ◌≤◌, ◌⊎◌, ℤ, pos, negsuc, ◌+ℤ◌, ◌-ℤ◌, ◌≤ℤ◌, List, [], ◌∷◌, length, slice_index, max, if◌then◌else◌}
use Rattle.std.specs.List.{All, Contains}
use Rattle.delay_net.specs.Limits.{delay_end}
use Rattle.delay_net.specs.Sums.{sum_below}
use Rattle.delay_net.specs.declared.net.Read.{Read}

-- one delay for each tensor
abbrev pub IsAssignment : List ℕ → List ℕ → Type 0
IsAssignment weights delays = length delays ≡ length weights

-- each delay is below 2 ^ 62
abbrev pub HasShortDelays : List ℕ → Type 0
HasShortDelays delays = All (λ delay. delay < delay_end) delays

-- the reader is at least as late as what it reads, moved by the offset
abbrev pub MeetsWindow : List ℕ → Read → Type 0
MeetsWindow delays read =
    (pos (slice_index delays read.of) +ℤ read.offset) ≤ℤ pos (slice_index delays read.reader)

-- the assignment meets the window of each read
abbrev pub MeetsWindows : List Read → List ℕ → Type 0
MeetsWindows reads delays = All (MeetsWindow delays) reads

-- the age of a read: the reader's delay, less the offset, less the delay of what is read
abbrev pub age : List ℕ → Read → ℤ
age delays read = (pos (slice_index delays read.reader) -ℤ read.offset) -ℤ pos (slice_index delays read.of)

-- a whole number as a count, 0 below 0
abbrev pub at_least_0 : ℤ → ℕ
at_least_0 (pos n) = n
at_least_0 (negsuc n) = 0

-- the storage of a tensor in cells: the greatest age of its reads, 0 where there is none
unfoldable pub storage_of : List Read → List ℕ → ℕ → ℕ
storage_of [] delays tensor = 0
storage_of (read ∷ reads) delays tensor =
    if read.of == tensor then max (at_least_0 (age delays read)) (storage_of reads delays tensor)
    else storage_of reads delays tensor

-- the total storage in bits: over the tensors, width times storage
unfoldable pub total_storage : List ℕ → List Read → List ℕ → ℕ
total_storage weights reads delays =
    sum_below (length weights) (λ tensor. slice_index weights tensor * storage_of reads delays tensor)

-- some read of the tensor has this age
abbrev pub IsAgeOfRead : List Read → List ℕ → ℕ → ℕ → Type 0
IsAgeOfRead reads delays tensor cells =
    (read : Read) × Contains reads read × (read.of ≡ tensor) × (age delays read ≡ pos cells)

-- no read of the tensor is older, and one has this age, unless it is 0
pub record IsGreatestAge (reads : List Read) (delays : List ℕ) (tensor cells : ℕ) : Type 0 where
  pub bound : All (λ read. read.of ≡ tensor → age delays read ≤ℤ pos cells) reads
  pub reached : (cells ≡ 0) ⊎ IsAgeOfRead reads delays tensor cells

-- no assignment that meets the windows has less storage
abbrev pub IsLeastStorage : List ℕ → List Read → ℕ → Type 0
IsLeastStorage weights reads bits =
    (others : List ℕ) → IsAssignment weights others → MeetsWindows reads others
    → bits ≤ total_storage weights reads others
