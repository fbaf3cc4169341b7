-- Certificates: two numbers for each read, `hold` and `need`.
use Rattle.std.specs.Prelude.{◌≡◌, ◌==◌, ℕ, ◌+◌, ◌<◌, Bool, ℤ, pos, ◌+ℤ◌, ◌-ℤ◌, ◌*ℤ◌, List, [], ◌∷◌, length, slice_index, if◌then◌else◌, IsTrue}
use Rattle.std.specs.List.{list_any}
use Rattle.delay_net.specs.Windows.{total_storage}
use Rattle.delay_net.specs.declared.net.Read.{Read}

-- the numbers of those reads whose key is the tensor, added up
unfoldable pub sum_at : (Read → ℕ) → ℕ → List Read → List ℕ → ℕ
sum_at key tensor [] numbers = 0
sum_at key tensor (read ∷ reads) [] = 0
sum_at key tensor (read ∷ reads) (n ∷ numbers) =
    (if key read == tensor then n else 0) + sum_at key tensor reads numbers

-- the sum over the reads of a tensor
abbrev pub sum_read : ℕ → List Read → List ℕ → ℕ
sum_read tensor reads numbers = sum_at (λ read. read.of) tensor reads numbers

-- the sum over the reads whose reader is a tensor
abbrev pub sum_reading : ℕ → List Read → List ℕ → ℕ
sum_reading tensor reads numbers = sum_at (λ read. read.reader) tensor reads numbers

-- whether some read is of the tensor
abbrev pub is_read : List Read → ℕ → Bool
is_read reads tensor = list_any (λ read. read.of == tensor) reads

-- the width of a tensor that is read, else 0
abbrev pub width_if_read : List ℕ → List Read → ℕ → ℕ
width_if_read weights reads tensor = if is_read reads tensor then slice_index weights tensor else 0

-- the holds of the reads of each tensor that is read sum to its width
abbrev pub FillsWidths : List ℕ → List Read → List ℕ → Type 0
FillsWidths weights reads hold =
    (tensor : ℕ) → tensor < length weights → IsTrue (is_read reads tensor)
    → sum_read tensor reads hold ≡ slice_index weights tensor

-- at each tensor, the holds where it reads and the needs where it is read equal the needs where it reads and its width,
-- if it is read
abbrev pub IsEven : List ℕ → List Read → List ℕ → List ℕ → Type 0
IsEven weights reads hold need =
    (tensor : ℕ) → tensor < length weights
    → sum_reading tensor reads hold + sum_read tensor reads need
    ≡ sum_reading tensor reads need + width_if_read weights reads tensor

-- a balanced certificate: both hold
pub record IsBalanced (weights : List ℕ) (reads : List Read) (hold need : List ℕ) : Type 0 where
  pub held : FillsWidths weights reads hold
  pub even : IsEven weights reads hold need

-- over the reads, number times offset
unfoldable pub sum_of_offsets : List Read → List ℕ → ℤ
sum_of_offsets [] numbers = pos 0
sum_of_offsets (read ∷ reads) [] = pos 0
sum_of_offsets (read ∷ reads) (n ∷ numbers) = (pos n *ℤ read.offset) +ℤ sum_of_offsets reads numbers

-- the value of a certificate
abbrev pub value_of : List Read → List ℕ → List ℕ → ℤ
value_of reads hold need = sum_of_offsets reads need -ℤ sum_of_offsets reads hold

-- a certificate fits an assignment: it is balanced, and its value is the total storage
pub record Fits (weights : List ℕ) (reads : List Read) (delays hold need : List ℕ) : Type 0 where
  pub balanced : IsBalanced weights reads hold need
  pub value : value_of reads hold need ≡ pos (total_storage weights reads delays)
