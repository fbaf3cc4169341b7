-- Margins number by number: on one side, in one dimension.
use Rattle.std.specs.Prelude.{ℕ, List, max, ℤ, pos, ◌+ℤ◌, ◌-ℤ◌, slice_index_or}
use Rattle.soda_ir.specs.Formula.{Formula, number, read, param, unary, binary, choice, cast}
use Rattle.soda_ir.specs.Points.{listed}
use Rattle.time_stages.specs.declared.margins.Margins.{Margins}
use Rattle.time_stages.specs.declared.margins.Side.{Side}
use Rattle.time_stages.specs.declared.margins.Side.TheVariants.{Low, High}
use Rattle.time_stages.specs.Margins.{at_least_none, no_margins}

-- the margins on a side
abbrev pub side_of : Side → Margins → List ℕ
side_of Low m = m.low
side_of High m = m.high

-- what a reader at this component needs of a number
abbrev pub number_needed : Side → ℕ → ℤ → ℕ
number_needed Low m d = at_least_none (pos m -ℤ d)
number_needed High m d = at_least_none (pos m +ℤ d)

-- what a reader of tensor t at an offset needs, where the tensors have these margins
abbrev pub number_at : List Margins → Side → (dim t : ℕ) → List ℤ → ℕ
number_at made side dim t o =
    number_needed side (slice_index_or (side_of side (slice_index_or made t (no_margins 0))) dim 0)
    (slice_index_or o dim (pos 0))

-- the greatest number that the reads of a formula need
abbrev pub formula_number : (ℕ → List ℤ → ℕ) → Formula → ℕ
formula_number need (number n) = 0
formula_number need (read t o) = need t o
formula_number need (param p k) = 0
formula_number need (unary op a) = formula_number need a
formula_number need (binary op a b) = max (formula_number need a) (formula_number need b)
formula_number need (choice c a b) =
    max (formula_number need c) (max (formula_number need a) (formula_number need b))
formula_number need (cast t a) = formula_number need a

-- the numbers that the reads of a formula need, in so many dimensions
abbrev pub numbers_of : List Margins → Side → (dims : ℕ) → Formula → List ℕ
numbers_of made side dims f = listed (λ d. formula_number (number_at made side d) f) dims

-- the margins that the reads of a formula need, where the tensors have these
abbrev pub margins_made : List Margins → (dims : ℕ) → Formula → Margins
margins_made made dims f = record { low = numbers_of made Low dims f; high = numbers_of made High dims f }
