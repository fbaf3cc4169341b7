-- The arrays of one iteration while they are filled, and what is written into them.
use Rattle.std.specs.Prelude.{◌≡◌, ℕ, ◌<◌, ◌&&◌, Bool, true, List, [], length, Some, None, ℤ, pos, ◌+ℤ◌, int_le, int_lt, slice_index_or, if◌then◌else◌}
use Rattle.soda_words.specs.IntType.{int32}
use Rattle.int_types.specs.Ranges.{InRange, wrapped}
use Rattle.soda_ir.specs.Counts.{formula_in}
use Rattle.soda_ir.specs.Formula.{Formula, by_formula, every}
use Rattle.soda_ir.specs.Points.{listed}
use Rattle.soda_ir.specs.Program.{PlainProgram, extents_at, outputs_of}
use Rattle.soda_ir.specs.Valid.{IsSound}
use Rattle.soda_eval.specs.Arrays.{Each, Given, array_cell, cell, in_region, type_at}
use Rattle.soda_eval.specs.Points.{in_box, moved, point}
use Rattle.soda_eval.specs.Runs.{IsArray, borders_of, cells_at, scope_of, stencil_of}
use Rattle.soda_eval.specs.Values.{valued}
use Rattle.time_stages.specs.declared.margins.Margins.{Margins}
use Rattle.time_stages.specs.Margins.{dims_of, keeps_away, no_margins}
use Rattle.time_stages.specs.Placing.{is_there, placing_order}
use Rattle.soda_run.specs.declared.iterations.Plan.{Plan}

-- the wrapped value of a tensor's formula at the place of a cell
unfoldable pub cell_made : PlainProgram → ℕ → List (List ℤ) → List ℤ → (x i : ℕ) → ℤ
cell_made p rows arrays params x i =
    wrapped (slice_index_or (scope_of p).tensors x int32) (by_formula (formula_in p x) (pos 0)
    (valued (scope_of p) (λ t o. array_cell (extents_at p rows) (slice_index_or arrays t [])
    (moved (point (extents_at p rows) i) o)) params))

-- the point of a cell keeps the margins
unfoldable pub is_kept : PlainProgram → ℕ → Margins → (i : ℕ) → Bool
is_kept p rows m i = keeps_away (extents_at p rows) m.low m.high (point (extents_at p rows) i)

-- what is written into a cell: its value where the margins are kept, and else what stands outside
unfoldable pub made : PlainProgram → ℕ → List (List ℤ) → List ℤ → (x : ℕ) → Margins → List ℤ → (i : ℕ) → ℤ
made p rows arrays params x m outside i =
    if is_kept p rows m i then cell_made p rows arrays params x i else slice_index_or outside i (pos 0)

-- a number of a line keeps these margins of its two ends
abbrev pub is_within : (n low high c : ℕ) → Bool
is_within n low high c = int_le (pos low) (pos c) && int_lt (pos c +ℤ pos high) (pos n)

-- the array whose cells stand outside the region of a tensor, and none where these are 0
abbrev pub outside_of : PlainProgram → List (List ℤ) → (x : ℕ) → List ℤ
outside_of p arrays x = elim (slice_index_or (borders_of p) x None) [ None ↦ [] | Some j ↦ slice_index_or arrays j [] ]

-- a tensor can be filled: where its margins are kept, the cells that it reads lie in the box, and their arrays are
-- there
pub record CanFill (p : PlainProgram) (rows : ℕ) (arrays : List (List ℤ)) (x : ℕ) (m : Margins) : Type 0 where
  pub there : x < length p.tensors
  pub low_dims : length m.low ≡ dims_of p
  pub high_dims : length m.high ≡ dims_of p
  pub inside : (f : Formula) (i : ℕ) → formula_in p x ≡ Some f → i < cells_at p rows → is_kept p rows m i ≡ true
      → every (λ t o. in_box (extents_at p rows) (moved (point (extents_at p rows) i) o)) f ≡ true
  pub reads : (f : Formula) → formula_in p x ≡ Some f
      → Each (λ t o. IsArray (slice_index_or (scope_of p).tensors t int32) (cells_at p rows)
      (slice_index_or arrays t [])) f

-- the array of a tensor in the iteration that begins so
unfoldable pub array_of : PlainProgram → ℕ → Given → List ℤ → (x : ℕ) → List ℤ
array_of p rows g params x =
    listed (λ i. cell (stencil_of p rows) g params (length p.tensors) x (point (extents_at p rows) i)) (cells_at p rows)

-- there is an array for each tensor, and those of the inputs and of these tensors are filled
pub record AreFilled (p : PlainProgram) (rows : ℕ) (g : Given) (params : List ℤ) (done : List ℕ)
    (arrays : List (List ℤ)) : Type 0 where
  pub many : length arrays ≡ length p.tensors
  pub whole : (x : ℕ) → x < length p.tensors → length (slice_index_or arrays x []) ≡ cells_at p rows
  pub filled : (x : ℕ) → is_there p done x ≡ true → slice_index_or arrays x [] ≡ array_of p rows g params x

-- an iteration begins: its margins are known, and its cells in range
pub record Begins (p : PlainProgram) (rows : ℕ) (g : Given) (params : List ℤ) (margins : List Margins) : Type 0 where
  pub many : length margins ≡ length p.tensors
  pub low_dims : (x : ℕ) → x < length p.tensors → length (slice_index_or margins x (no_margins 0)).low ≡ dims_of p
  pub high_dims : (x : ℕ) → x < length p.tensors → length (slice_index_or margins x (no_margins 0)).high ≡ dims_of p
  pub regions : (x : ℕ) (q : List ℤ) → x < length p.tensors → in_region (stencil_of p rows) g (length p.tensors) x q
      ≡ keeps_away (extents_at p rows) (slice_index_or margins x (no_margins 0)).low
      (slice_index_or margins x (no_margins 0)).high q
  pub in_range : (x : ℕ) (q : List ℤ) → x < length p.tensors
      → InRange (type_at (stencil_of p rows) x) (cell (stencil_of p rows) g params (length p.tensors) x q)

-- what all iterations of a run over so many rows share, where the program is sound
pub record IsPlan (p : PlainProgram) (rows : ℕ) (plan : Plan) : Type 0 where
  pub sound : IsSound p
  pub extents : plan.extents ≡ extents_at p rows
  pub order : plan.order ≡ placing_order p
  pub outputs : plan.outputs ≡ outputs_of p
