-- The laws of firings: what they hand on is the array, cell by cell.
use Rattle.std.specs.Prelude.{◌≡◌, ℕ, ◌+◌, ◌-◌, ◌*◌, ◌<◌, ◌≤◌, List, ◌++◌, length, take, drop, ℤ, pos, slice_index_or}
use Rattle.file_modules.specs.Firings.{cells_before, handed, lanes_of}

-- before the first firing there is none of the cells
abbrev pub BeginsWithNone : Type 0
BeginsWithNone = (unroll delay n : ℕ) → cells_before unroll delay n 0 ≡ 0

-- after so many firings that they reach the last cell there are all
abbrev pub EndsWithAll : Type 0
EndsWithAll = (unroll delay n k : ℕ) → n + delay ≤ unroll * k → cells_before unroll delay n k ≡ n

-- each lane whose cell is there holds it
abbrev pub AreCells : (unroll delay n k : ℕ) → (array lanes : List ℤ) → Type 0
AreCells unroll delay n k array lanes =
    (r : ℕ) → r < unroll → delay ≤ unroll * k + r → unroll * k + r - delay < n
    → slice_index_or lanes r (pos 0) ≡ slice_index_or array (unroll * k + r - delay) (pos 0)

-- then the firing hands on the next cells of the array
abbrev pub HandsNextCells : Type 0
HandsNextCells =
    (unroll delay n k : ℕ) (array lanes : List ℤ) → length lanes ≡ unroll → n ≤ length array
    → AreCells unroll delay n k array lanes
    → handed unroll delay n k lanes
    ≡ take (cells_before unroll delay n (k + 1) - cells_before unroll delay n k)
    (drop (cells_before unroll delay n k) array)

-- and with those before them they are the first cells
abbrev pub HandsFirstCells : Type 0
HandsFirstCells =
    (unroll delay n k : ℕ) (array lanes : List ℤ) → length lanes ≡ unroll → n ≤ length array
    → AreCells unroll delay n k array lanes
    → take (cells_before unroll delay n k) array ++ handed unroll delay n k lanes
    ≡ take (cells_before unroll delay n (k + 1)) array

-- what a source sends of an array are its cells
abbrev pub SendsCells : Type 0
SendsCells =
    (unroll delay n k : ℕ) (array : List ℤ) → AreCells unroll delay n k array (lanes_of unroll delay n array k)
