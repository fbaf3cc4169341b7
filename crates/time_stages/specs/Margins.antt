-- Margins: how far a tensor's region keeps from the sides of the box, in each dimension.
use Rattle.std.specs.Prelude.{◌≡◌, ℕ, zero, suc, ◌*◌, ◌^◌, ◌≤◌, Bool, true, false, ◌&&◌, List, [], ◌∷◌, length, replicate, max, ℤ, pos, negsuc, ◌+ℤ◌, ◌-ℤ◌, int_le, int_lt, slice_index_or, if◌then◌else◌}
use Rattle.soda_ir.specs.Counts.{formula_in}
use Rattle.soda_ir.specs.Formula.{Formula, number, read, param, unary, binary, choice, cast, by_formula}
use Rattle.soda_ir.specs.Points.{listed}
use Rattle.soda_ir.specs.Program.{PlainProgram, outputs_of, preserves}
use Rattle.time_stages.specs.declared.margins.Margins.{Margins}

-- no margins in so many dimensions
abbrev pub no_margins : ℕ → Margins
no_margins dims = record { low = replicate dims 0; high = replicate dims 0 }

-- a distance, or 0 where it is less
abbrev pub at_least_none : ℤ → ℕ
at_least_none (pos n) = n
at_least_none (negsuc n) = 0

-- what a reader at these offsets needs, where what it reads keeps so far from the first points, or from the last
abbrev pub low_needed : List ℕ → List ℤ → List ℕ
low_needed [] ds = []
low_needed (m ∷ ms) [] = []
low_needed (m ∷ ms) (d ∷ ds) = at_least_none (pos m -ℤ d) ∷ low_needed ms ds

abbrev pub high_needed : List ℕ → List ℤ → List ℕ
high_needed [] ds = []
high_needed (m ∷ ms) [] = []
high_needed (m ∷ ms) (d ∷ ds) = at_least_none (pos m +ℤ d) ∷ high_needed ms ds

abbrev pub needed : Margins → List ℤ → Margins
needed m o = record { low = low_needed m.low o; high = high_needed m.high o }

-- the greater of two, number by number
abbrev pub greatest : List ℕ → List ℕ → List ℕ
greatest [] ns = []
greatest (m ∷ ms) [] = []
greatest (m ∷ ms) (n ∷ ns) = max m n ∷ greatest ms ns

abbrev pub widest : Margins → Margins → Margins
widest a b = record { low = greatest a.low b.low; high = greatest a.high b.high }

-- the margins that the reads of a formula need together, in so many dimensions
abbrev pub formula_margins : ℕ → (ℕ → List ℤ → Margins) → Formula → Margins
formula_margins dims need (number n) = no_margins dims
formula_margins dims need (read t o) = need t o
formula_margins dims need (param p k) = no_margins dims
formula_margins dims need (unary op a) = formula_margins dims need a
formula_margins dims need (binary op a b) = widest (formula_margins dims need a) (formula_margins dims need b)
formula_margins dims need (choice c a b) = widest (formula_margins dims need c)
    (widest (formula_margins dims need a) (formula_margins dims need b))
formula_margins dims need (cast t a) = formula_margins dims need a

-- how many dimensions the arrays of a program have
abbrev pub dims_of : PlainProgram → ℕ
dims_of p = suc (length p.extents)

-- the margins of a tensor, where the inputs have these. No chain of reads is longer than there are tensors, so k is
-- their number
unfoldable pub margins_over : PlainProgram → (ℕ → Margins) → (k : ℕ) → ℕ → Margins
margins_over p inputs zero x = no_margins (dims_of p)
margins_over p inputs (suc k) x = by_formula (formula_in p x) (inputs x)
    (formula_margins (dims_of p) (λ y o. needed (margins_over p inputs k y) o))

-- the margins of input j of the iteration before which so many come: none in the first; later those of the output of
-- its number, and under preserve none
unfoldable pub input_margins : PlainProgram → (earlier : ℕ) → ℕ → Margins
input_margins p zero j = no_margins (dims_of p)
input_margins p (suc t) j = if preserves p then no_margins (dims_of p)
    else margins_over p (input_margins p t) (length p.tensors) (slice_index_or (outputs_of p) j 0)

-- the margins of a tensor in that iteration
abbrev pub margins_of : PlainProgram → (earlier : ℕ) → ℕ → Margins
margins_of p t x = margins_over p (input_margins p t) (length p.tensors) x

-- margins in so many dimensions, none of them greater than this
pub record AreMargins (dims most : ℕ) (m : Margins) : Type 0 where
  pub low_dims : length m.low ≡ dims
  pub high_dims : length m.high ≡ dims
  pub low_most : (d : ℕ) → slice_index_or m.low d 0 ≤ most
  pub high_most : (d : ℕ) → slice_index_or m.high d 0 ≤ most

-- the margins of all tensors in the iteration before which so many come
pub record AreMade (p : PlainProgram) (earlier : ℕ) (margins : List Margins) : Type 0 where
  pub are : margins ≡ listed (margins_of p earlier) (length p.tensors)
  pub most : (x : ℕ) → AreMargins (dims_of p) (suc earlier * 2 ^ 24) (slice_index_or margins x (no_margins (dims_of p)))

-- the point keeps that far from all sides of the box
abbrev pub keeps_away : List ℕ → List ℕ → List ℕ → List ℤ → Bool
keeps_away [] [] [] [] = true
keeps_away (n ∷ ns) (l ∷ ls) (h ∷ hs) (d ∷ ds) =
    int_le (pos l) d && (int_lt (d +ℤ pos h) (pos n) && keeps_away ns ls hs ds)
keeps_away _ _ _ _ = false
