-- The arrays that a program defines, point by point.
use Rattle.std.specs.Prelude.{◌≡◌, nat_lt, ℕ, zero, suc, Bool, true, false, ◌&&◌, List, [], Option, Some, None, ℤ, pos, unsigned_abs, if◌then◌else◌, slice_index_or, length}
use Rattle.soda_words.specs.IntType.{IntType, int32}
use Rattle.int_types.specs.Ranges.{wrapped}
use Rattle.soda_ir.specs.Formula.{Formula, number, read, param, unary, binary, choice, cast, every, by_formula}
use Rattle.soda_eval.specs.Values.{Scope, valued}
use Rattle.soda_ir.specs.Points.{linear}
use Rattle.soda_eval.specs.Points.{in_box, moved}

-- a program at given rows: all extents, the types, and the formula of each tensor that is no input
pub record Stencil : Type 0 where
  pub extents : List ℕ
  pub scope : Scope
  pub formulas : List (Option Formula)
  -- the input whose cell a tensor has outside its region, if any
  pub outside : List (Option ℕ)

-- what an iteration begins with: the region and the cells of each input
pub record Given : Type 0 where
  pub region : ℕ → List ℤ → Bool
  pub cell : ℕ → List ℤ → ℤ

-- the formula of a tensor, if it has one
abbrev pub formula_at : Stencil → ℕ → Option Formula
formula_at s x = slice_index_or s.formulas x None

-- the point lies in the tensor's region. No chain of reads is longer than there are tensors, so k is their number
unfoldable pub in_region : Stencil → Given → (k : ℕ) → ℕ → List ℤ → Bool
in_region s g zero x p = false
in_region s g (suc k) x p =
    in_box s.extents p && by_formula (formula_at s x) (g.region x p) (every (λ y o. in_region s g k y (moved p o)))

-- the type of a tensor
abbrev pub type_at : Stencil → ℕ → IntType
type_at s x = slice_index_or s.scope.tensors x int32

-- what a cell outside its region is
abbrev pub outside_cell : Stencil → Given → ℕ → List ℤ → ℤ
outside_cell s g x p = elim (slice_index_or s.outside x None) [ None ↦ pos 0 | Some j ↦ g.cell j p ]

-- the cell of a tensor at a point
unfoldable pub cell : Stencil → Given → List ℤ → (k : ℕ) → ℕ → List ℤ → ℤ
cell s g params zero x p = pos 0
cell s g params (suc k) x p =
    by_formula (formula_at s x) (g.cell x p) (λ f. if in_region s g (suc k) x p
    then wrapped (type_at s x) (valued s.scope (λ y o. cell s g params k y (moved p o)) params f)
    else outside_cell s g x p)

-- the cell of an array at a point, and 0 outside its box
abbrev pub array_cell : List ℕ → List ℤ → List ℤ → ℤ
array_cell extents array p =
    if in_box extents p then slice_index_or array (unsigned_abs (linear extents p)) (pos 0) else pos 0

-- what the first iteration begins with: whole arrays
abbrev pub whole : List ℕ → List (List ℤ) → Given
whole extents arrays = record {
  region = λ x p. in_box extents p;
  cell = λ x p. array_cell extents (slice_index_or arrays x []) p;
}

-- each tensor reads only tensors of smaller rank
abbrev pub IsPlaced : Stencil → (ℕ → ℕ) → Type 0
IsPlaced s rank =
    (x : ℕ) (f : Formula) → formula_at s x ≡ Some f → every (λ y o. nat_lt (rank y) (rank x)) f ≡ true

-- the sentences that say which points are in the regions and what the cells are
pub record IsMeaning (s : Stencil) (g : Given) (params : List ℤ) (region : ℕ → List ℤ → Bool)
    (value : ℕ → List ℤ → ℤ) : Type 0 where
  pub regions : (x : ℕ) (p : List ℤ) → region x p
      ≡ (in_box s.extents p && by_formula (formula_at s x) (g.region x p) (every (λ y o. region y (moved p o))))
  pub cells : (x : ℕ) (p : List ℤ) → value x p
      ≡ by_formula (formula_at s x) (g.cell x p) (λ f. if region x p
      then wrapped (type_at s x) (valued s.scope (λ y o. value y (moved p o)) params f) else outside_cell s g x p)

-- what the iteration after one begins with: the outputs, whose tensor numbers are these
abbrev pub next : Bool → List ℕ → Stencil → List ℤ → Given → Given
next preserve outputs s params g = record {
  region = λ j p. if preserve then in_box s.extents p
      else in_region s g (length s.formulas) (slice_index_or outputs j 0) p;
  cell = λ j p. cell s g params (length s.formulas) (slice_index_or outputs j 0) p;
}

-- what stands after t iterations
abbrev pub after : Bool → List ℕ → Stencil → List ℤ → (t : ℕ) → Given → Given
after preserve outputs s params zero g = g
after preserve outputs s params (suc t) g = next preserve outputs s params (after preserve outputs s params t g)

-- a fact of each read of a formula
abbrev pub Each : (ℕ → List ℤ → Type 0) → Formula → Type 0
Each fact (number n) = Unit {0}
Each fact (read t o) = fact t o
Each fact (param p k) = Unit {0}
Each fact (unary op a) = Each fact a
Each fact (binary op a b) = Each fact a × Each fact b
Each fact (choice c a b) = Each fact c × Each fact a × Each fact b
Each fact (cast t a) = Each fact a
