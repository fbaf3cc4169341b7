-- Cells are in range: those of a tensor, those that an iteration begins with, and those of the output arrays.
use Rattle.std.proofs.Common.{◌≡◌, ℕ, zero, suc, ◌-◌, ◌<◌, Bool, true, false, List, [], ◌∷◌, ◌++◌, ℤ, pos, unsigned_abs, Option, Some, None, All, slice_index_or, length, refl, sym, ◌∙◌, ap, subst, arith, length-append, if◌then◌else◌}
use Rattle.std.proofs.lemmas.List.{length-map}
use Rattle.std.proofs.lemmas.List.Elements.{All-append, All-cons, All-head, All-nil, All-tail}
use Rattle.soda_words.specs.IntType.{IntType, int32}
use Rattle.int_types.specs.Ranges.{InRange, wrapped}
use Rattle.int_types.proofs.CallerLemmas.{wrapped_in_range, zero_in_range}
use Rattle.soda_ir.specs.Counts.{is_input}
use Rattle.soda_ir.specs.Formula.{Formula, by_formula}
use Rattle.soda_ir.specs.Points.{linear, listed}
use Rattle.soda_ir.specs.Program.{PlainProgram, PlainTensor, extents_at, input_types, outputs_of}
use Rattle.soda_ir.specs.Valid.{IsSound, output_types}
use Rattle.soda_ir.proofs.CallerLemmas.{IsInput, IsOutput, as_many_outputs, bare_input, input_known, input_there, length-listed, listed-cons, output_at, type_in}
use Rattle.soda_eval.specs.Arrays.{Given, Stencil, array_cell, cell, formula_at, in_region, outside_cell, type_at, whole}
use Rattle.soda_eval.specs.Points.{in_box, moved, point}
use Rattle.soda_eval.specs.Runs.{HasArrays, IsArray, borders_of, cells_at, defined_arrays, run_of, stencil_of}
use Rattle.soda_eval.specs.Values.{valued}
use Rattle.soda_eval.proofs.Depth.{depth_means}
use Rattle.soda_eval.proofs.Borders.{IsBorder, border_at, border_preserves}
use Rattle.soda_eval.proofs.Ranked.{rank, ranks, ranks_below}

if_in_range : (t : IntType) (b : Bool) (v w : ℤ) → InRange t v → InRange t w → InRange t (if b then v else w)
if_in_range t true v w p q = p
if_in_range t false v w p q = q

-- a cell of an array in range, and what stands past its end
pub get_in_range : (t : IntType) (xs : List ℤ) (k : ℕ) → All (λ v. InRange t v) xs → InRange t (slice_index_or xs k (pos 0))
get_in_range t [] k h = zero_in_range t
get_in_range t (x ∷ xs) zero h = All-head (λ v. InRange t v) x xs h
get_in_range t (x ∷ xs) (suc k) h = get_in_range t xs k (All-tail (λ v. InRange t v) x xs h)

-- each cell of an array in range, inside the box and outside
pub array_in_range : (t : IntType) (xs : List ℤ) (ns : List ℕ) (q : List ℤ) → All (λ v. InRange t v) xs → InRange t (array_cell ns xs q)
array_in_range t xs ns q h =
    if_in_range t (in_box ns q) (slice_index_or xs (unsigned_abs (linear ns q)) (pos 0)) (pos 0) (get_in_range t xs (unsigned_abs (linear ns q)) h) (zero_in_range t)

-- the array of a number is of the type of that number
array_at : (n : ℕ) (types : List IntType) (arrays : List (List ℤ)) (j : ℕ) → HasArrays n types arrays → All (λ v. InRange (slice_index_or types j int32) v) (slice_index_or arrays j [])
array_at n [] [] j h = All-nil (λ v. InRange int32 v)
array_at n [] (a ∷ rest) j h = absurd h
array_at n (t ∷ ts) [] j h = absurd h
array_at n (t ∷ ts) (a ∷ rest) zero h = h.0.in_range
array_at n (t ∷ ts) (a ∷ rest) (suc j) h = array_at n ts rest j h.1

-- what holds of each value holds of the list
pub all_listed : (P : ℤ → Type 0) (f : ℕ → ℤ) (n : ℕ) → ((k : ℕ) → P (f k)) → All P (listed f n)
all_listed P f zero h = All-nil P
all_listed P f (suc n) h =
    All-append P (listed f n) (f n ∷ []) (all_listed P f n h) (All-cons P (f n) [] (h n) (All-nil P))

arrays_listed : (n : ℕ) (types : List IntType) (f : ℕ → List ℤ) → ((j : ℕ) → j < length types → IsArray (slice_index_or types j int32) n (f j)) → HasArrays n types (listed f (length types))
arrays_listed n [] f h = tt
arrays_listed n (t ∷ ts) f h =
    subst (HasArrays n (t ∷ ts)) (sym (listed-cons f (length ts))) (h 0 (omega arith), arrays_listed n ts (λ k. f (suc k)) (λ j l. h (suc j) (omega arith)))

-- a cell, in its region and outside
by_region : (t : IntType) (o : Option Formula) (given outside : ℤ) (b : Bool) (value : Formula → ℤ) → (o ≡ None → InRange t given) → InRange t outside → InRange t (by_formula o given (λ f. if b then wrapped t (value f) else outside))
by_region t None given outside b value h k = h refl
by_region t (Some f) given outside true value h k = wrapped_in_range t (value f)
by_region t (Some f) given outside false value h k = k

module _ (p : PlainProgram) (sound : IsSound p) (rows : ℕ) (params : List ℤ) where
  abbrev stencil : Stencil
  stencil = stencil_of p rows

  abbrev HasInputsInRange : Given → Type 0
  HasInputsInRange g = (j : ℕ) (q : List ℤ) → is_input p j ≡ true → InRange (type_at stencil j) (g.cell j q)

  -- the input whose cells stand outside the region of a tensor has that tensor's type
  pub border_input : (x j : ℕ) → slice_index_or (borders_of p) x None ≡ Some j → (is_input p j ≡ true) × (type_at stencil j ≡ type_at stencil x)
  border_input x j e =
      let k = border_preserves p.border p.tensors x j e in
      let b : IsBorder 0 (output_types p.tensors) j (type_in p.tensors x) = border_at 0 p.tensors x j k.1 in
      let same : input_types p.tensors ≡ output_types p.tensors = sound.fits.preserved k.0 in
      let is : j ≡ b.number = omega (arith, b.is) in
      let input = input_known p.tensors j sound.ends.inputs_first (omega (arith, b.there, ap length same)) in
      let there : IsInput (input_types p.tensors) j (type_in p.tensors j) = input_there p.tensors j sound.ends.inputs_first input in
      (input, sym there.type ∙ ap (λ ts. slice_index_or ts j int32) same ∙ ap (λ i. slice_index_or (output_types p.tensors) i int32) is ∙ b.type)

  module _ (g : Given) (h : HasInputsInRange g) where
    outside_by : (x : ℕ) (q : List ℤ) (o : Option ℕ) → slice_index_or (borders_of p) x None ≡ o → InRange (type_at stencil x) (elim o [ None ↦ pos 0 | Some j ↦ g.cell j q ])
    outside_by x q None e = zero_in_range (type_at stencil x)
    outside_by x q (Some j) e =
        let b = border_input x j e in subst (λ (t : IntType). InRange t (g.cell j q)) b.1 (h j q b.0)

    pub cell_in_range : (x : ℕ) (q : List ℤ) → x < length p.tensors → InRange (type_at stencil x) (cell stencil g params (length p.tensors) x q)
    cell_in_range x q l =
        let m = depth_means stencil g params (rank p) (ranks p sound rows) (length p.tensors) (ranks_below p sound) in
        subst (λ (v : ℤ). InRange (type_at stencil x) v) (sym (m.cells x q))
        (by_region (type_at stencil x) (formula_at stencil x) (g.cell x q) (outside_cell stencil g x q) (in_region stencil g (length p.tensors) x q) (λ f. valued stencil.scope (λ y o. cell stencil g params (length p.tensors) y (moved q o)) params f)
        (λ e. h x q (bare_input p.tensors x sound.parts.formulas l e)) (outside_by x q (slice_index_or (borders_of p) x None) refl))

    -- the cells of an output
    output_in_range : (j : ℕ) (q : List ℤ) → j < length (output_types p.tensors) → InRange (slice_index_or (output_types p.tensors) j int32) (cell stencil g params (length stencil.formulas) (slice_index_or (outputs_of p) j 0) q)
    output_in_range j q l =
        let o : IsOutput 0 p.tensors j (slice_index_or (outputs_of p) j 0) = output_at 0 p.tensors j l in
        let is : slice_index_or (outputs_of p) j 0 ≡ o.place = omega (arith, o.is) in
        let same : cell stencil g params (length p.tensors) o.place q ≡ cell stencil g params (length stencil.formulas) (slice_index_or (outputs_of p) j 0) q =
        ap (λ x. cell stencil g params (length p.tensors) x q) (sym is) ∙ ap (λ n. cell stencil g params n (slice_index_or (outputs_of p) j 0) q) (sym (length-map p.tensors (λ (t : PlainTensor). t.formula))) in
        subst (λ (t : IntType). InRange t (cell stencil g params (length stencil.formulas) (slice_index_or (outputs_of p) j 0) q)) o.type (subst (λ (v : ℤ). InRange (type_at stencil o.place) v) same (cell_in_range o.place q o.there))

  module _ (inputs : List (List ℤ)) (arrays : HasArrays (cells_at p rows) (input_types p.tensors) inputs) where
    whole_in_range : HasInputsInRange (whole (extents_at p rows) inputs)
    whole_in_range j q e =
        let i : IsInput (input_types p.tensors) j (type_in p.tensors j) = input_there p.tensors j sound.ends.inputs_first e in
        subst (λ (t : IntType). InRange t (array_cell (extents_at p rows) (slice_index_or inputs j []) q)) i.type (array_in_range (slice_index_or (input_types p.tensors) j int32) (slice_index_or inputs j []) (extents_at p rows) q (array_at (cells_at p rows) (input_types p.tensors) inputs j arrays))

    -- what an iteration begins with
    pub inputs_in_range : (t : ℕ) → t < p.iterate → HasInputsInRange (run_of p rows params inputs t)
    inputs_in_range zero l = whole_in_range
    inputs_in_range (suc t) l = λ j q e.
        let same : input_types p.tensors ≡ output_types p.tensors = sound.fits.iterated (λ z. omega arith) in
        let i : IsInput (input_types p.tensors) j (type_in p.tensors j) = input_there p.tensors j sound.ends.inputs_first e in
        let type : slice_index_or (output_types p.tensors) j int32 ≡ type_in p.tensors j = ap (λ ts. slice_index_or ts j int32) (sym same) ∙ i.type in
        let g = run_of p rows params inputs t in
        subst (λ (u : IntType). InRange u ((run_of p rows params inputs (suc t)).cell j q)) type (output_in_range g (inputs_in_range t (omega arith)) j q (omega (arith, i.there, ap length same)))

    pub arrays_in_range : HasArrays (cells_at p rows) (output_types p.tensors) (defined_arrays p rows params inputs)
    arrays_in_range =
        let n = cells_at p rows in
        let types = output_types p.tensors in
        let value : ℕ → ℕ → ℤ = λ j i. (run_of p rows params inputs p.iterate).cell j (point (extents_at p rows) i) in
        let last : suc (p.iterate - 1) ≡ p.iterate = omega (arith, sound.limits.some_iterations) in
        let begun = inputs_in_range (p.iterate - 1) (omega (arith, sound.limits.some_iterations)) in
        let each : (j : ℕ) → j < length types → (i : ℕ) → InRange (slice_index_or types j int32) (value j i) = λ j l i. subst (λ (t : ℕ). InRange (slice_index_or types j int32) ((run_of p rows params inputs t).cell j (point (extents_at p rows) i))) last (output_in_range (run_of p rows params inputs (p.iterate - 1)) begun j (point (extents_at p rows) i) l) in
        subst (λ (m : ℕ). HasArrays n types (listed (λ j. listed (value j) n) m)) (sym (as_many_outputs 0 p.tensors)) (arrays_listed n types (λ j. listed (value j) n) (λ j l. record { whole = length-listed (value j) n; in_range = all_listed (λ v. InRange (slice_index_or types j int32) v) (value j) n (each j l) }))
