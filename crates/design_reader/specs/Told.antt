-- What lines of staged tensors and of reads tell: the lines with these numbers, and which numbers they may have.
use Rattle.std.specs.Prelude.{◌≡◌, ℕ, ◌^◌, ◌<◌, ◌≤◌, List, length, slice_index, take}
use Rattle.std.specs.List.{All}
use Rattle.delay_net.specs.Windows.{HasShortDelays, MeetsWindows, age, at_least_0, storage_of}
use Rattle.delay_net.specs.declared.net.Read.{Read}
use Rattle.design_lines.specs.PlanLines.{numbered, read_line, tensor_line}
use Rattle.soda_ir.specs.Program.{PlainProgram}
use Rattle.time_stages.specs.Staged.{staged_tensors}

-- the lines of the first staged tensors, with these delays and storages, one of each for each of them
abbrev pub told_tensors : PlainProgram → (delays storages : List ℕ) → List (List ℕ)
told_tensors p delays storages = numbered
    (λ n s. tensor_line p n s (slice_index delays n) (slice_index storages n)) 0
    (take (length delays) (staged_tensors p))

-- such delays and storages: each delay is below 2 ^ 62, and each storage below 2 ^ 64
pub record AreTold (p : PlainProgram) (delays storages : List ℕ) : Type 0 where
  pub few : length delays ≤ length (staged_tensors p)
  pub as_many : length storages ≡ length delays
  pub short : HasShortDelays delays
  pub small : All (λ n. n < 2 ^ 64) storages

-- the lines of the first of these reads, with these holds and needs, and the ages that the delays give
abbrev pub told_reads : List Read → (delays hold need : List ℕ) → List (List ℕ)
told_reads reads delays hold need = numbered
    (λ n r. read_line n r (at_least_0 (age delays r)) (slice_index hold n) (slice_index need n)) 0
    (take (length hold) reads)

-- such holds and needs: each is below 2 ^ 32, and no age is below 0
pub record AreReadsTold (reads : List Read) (delays hold need : List ℕ) : Type 0 where
  pub few : length hold ≤ length reads
  pub as_many : length need ≡ length hold
  pub meets : MeetsWindows (take (length hold) reads) delays
  pub small_holds : All (λ n. n < 2 ^ 32) hold
  pub small_needs : All (λ n. n < 2 ^ 32) need

-- these are the greatest ages of the reads of each tensor
abbrev pub AreStorages : List Read → (delays storages : List ℕ) → Type 0
AreStorages reads delays storages =
    (n : ℕ) → n < length storages → slice_index storages n ≡ storage_of reads delays n
