-- Sharing keeps the regions and the cells of all inputs and outputs, in every iteration.
use Rattle.std.proofs.Common.{◌≡◌, ℕ, zero, suc, ◌+◌, ◌<◌, ◌≤◌, Bool, true, false, ◌&&◌, List, [], ◌∷◌, ℤ, Some, map, slice_index_or, length, refl, sym, ◌∙◌, ap, arith, if◌then◌else◌}
use Rattle.std.proofs.lemmas.Bool.{lt-ltb}
use Rattle.std.proofs.lemmas.List.{length-map}
use Rattle.std.proofs.Math.ListN.{get_or-map}
use Rattle.soda_ir.specs.declared.program.Role.{Role}
use Rattle.soda_ir.specs.declared.program.Role.TheVariants.{Input, Local, Output}
use Rattle.soda_ir.specs.Points.{listed}
use Rattle.soda_ir.specs.Program.{PlainProgram, PlainTensor, extents_at, outputs_from, outputs_of, preserves}
use Rattle.soda_eval.specs.Arrays.{Given, IsMeaning, Stencil, after, cell, in_region, next, whole}
use Rattle.soda_eval.specs.Points.{in_box, point}
use Rattle.soda_eval.specs.Runs.{cells_at, defined_arrays, run_of, stencil_of}
use Rattle.soda_eval.proofs.CallerLemmas.{depth_means, one_cell, one_region}
use Rattle.share_shape.specs.Compounds.{Site, sites}
use Rattle.share_shape.specs.Procedure.{first_shared, further, local_for, replaced_in, shared_at}
use Rattle.share_shape.proofs.Fit.{IsFit, behind_inputs, dims_of, shares, still_fit, within}
use Rattle.share_shape.proofs.Inserted.{further_less, outputs_inserted, outputs_replaced}
use Rattle.share_shape.proofs.Sides.{old_meaning, old_region, old_value}

abbrev with_number : Role → ℕ → List ℕ → List ℕ
with_number r k xs = elim r [ Input ↦ xs | Local ↦ xs | Output ↦ k ∷ xs ]

below_by : (r : Role) (m j e : ℕ) (xs : List ℕ) → m < e → ((i : ℕ) → slice_index_or xs i 0 < e) → slice_index_or (with_number r m xs) j 0 < e
below_by Input m j e xs h rest = rest j
below_by Local m j e xs h rest = rest j
below_by Output m zero e xs h rest = h
below_by Output m (suc j) e xs h rest = rest j

-- the number of an output is that of a tensor
output_below : (m : ℕ) (ts : List PlainTensor) (e j : ℕ) → m + length ts ≤ e → 0 < e → slice_index_or (outputs_from m ts) j 0 < e
output_below m [] e j h p = p
output_below m (t ∷ ts) e j h p =
    below_by t.role m j e (outputs_from (suc m) ts) (omega arith) (λ i. output_below (suc m) ts e i (omega arith) p)

module _ (p : PlainProgram) (fit : IsFit p) (s : Site) (first : first_shared (sites p) ≡ Some s) (rows : ℕ) (params : List ℤ) where
  abbrev k : ℕ
  k = s.tensor

  abbrev n : ℕ
  n = length p.tensors

  abbrev q : PlainProgram
  q = shared_at p s

  abbrev one : Stencil
  one = stencil_of p rows

  abbrev two : Stencil
  two = stencil_of q rows

  long_one : length one.formulas ≡ n
  long_one = length-map p.tensors (λ (t : PlainTensor). t.formula)

  long_two : length two.formulas ≡ length q.tensors
  long_two = length-map q.tensors (λ (t : PlainTensor). t.formula)

  module _ (g : Given) where
    abbrev meaning : IsMeaning two g params (in_region two g (length q.tensors)) (cell two g params (length q.tensors))
    meaning =
        let f = still_fit p fit s first in depth_means two g params f.rank f.ranked (length q.tensors) f.below

    abbrev old : IsMeaning one g params (old_region one two k n (dims_of p) s.compound (shares p fit s first rows) g params (in_region two g (length q.tensors)) (cell two g params (length q.tensors)) meaning) (old_value one two k n (dims_of p) s.compound (shares p fit s first rows) g params (in_region two g (length q.tensors)) (cell two g params (length q.tensors)) meaning)
    old = old_meaning one two k n (dims_of p) s.compound (shares p fit s first rows) g params (in_region two g (length q.tensors)) (cell two g params (length q.tensors)) meaning

    -- each old tensor has the region and the cells that it had
    pub region_same : (y : ℕ) (x : List ℤ) → y < n → in_region two g (length q.tensors) (further k y) x ≡ in_region one g n y x
    region_same y x h =
        sym (ap (λ b. if b then in_region two g (length q.tensors) (further k y) x else (in_box one.extents x && g.region y x)) (lt-ltb y n h))
        ∙ one_region one g params fit.rank fit.ranked _ _ old n y x (fit.below y)

    pub cell_same : (y : ℕ) (x : List ℤ) → y < n → cell two g params (length q.tensors) (further k y) x ≡ cell one g params n y x
    cell_same y x h =
        sym (ap (λ b. if b then cell two g params (length q.tensors) (further k y) x else g.cell y x) (lt-ltb y n h))
        ∙ one_cell one g params fit.rank fit.ranked _ _ old n y x (fit.below y)

  outputs_new : outputs_of q ≡ map (further k) (outputs_of p)
  unfolding shared_at
  outputs_new =
      outputs_inserted (local_for p s) refl k 0 (map (replaced_in k s.compound) p.tensors) k (omega arith) (omega (arith, length-map p.tensors (replaced_in k s.compound), within p fit s first))
      ∙ ap (map (further k)) (outputs_replaced k s.compound 0 p.tensors)

  abbrev out : ℕ → ℕ
  out j = slice_index_or (outputs_of p) j 0

  output_new : (j : ℕ) → slice_index_or (outputs_of q) j 0 ≡ further k (out j)
  output_new j =
      let zero_stays : further k 0 ≡ 0 = further_less k 0 (omega (arith, behind_inputs p fit s first, fit.some)) in
      ap (λ (xs : List ℕ). slice_index_or xs j 0) outputs_new
      ∙ sym (ap (λ i. slice_index_or (map (further k) (outputs_of p)) j i) zero_stays)
      ∙ get_or-map (further k) (outputs_of p) j 0

  out_there : (j : ℕ) → out j < n
  out_there j = output_below 0 p.tensors n j (omega arith) (omega (arith, within p fit s first))

  refl_box : (x : List ℤ) → in_box two.extents x ≡ in_box one.extents x
  unfolding shared_at
  refl_box x = refl

  next_region : (b : Bool) (g : Given) (j : ℕ) (x : List ℤ) → (if b then in_box two.extents x else in_region two g (length two.formulas) (slice_index_or (outputs_of q) j 0) x) ≡ (if b then in_box one.extents x else in_region one g (length one.formulas) (out j) x)
  next_region true g j x = refl_box x
  next_region false g j x =
      ap (λ i. in_region two g i (slice_index_or (outputs_of q) j 0) x) long_two
      ∙ ap (λ i. in_region two g (length q.tensors) i x) (output_new j)
      ∙ region_same g (out j) x (out_there j)
      ∙ ap (λ i. in_region one g i (out j) x) (sym long_one)

  next_cell : (g : Given) (j : ℕ) (x : List ℤ) → cell two g params (length two.formulas) (slice_index_or (outputs_of q) j 0) x ≡ cell one g params (length one.formulas) (out j) x
  next_cell g j x =
      ap (λ i. cell two g params i (slice_index_or (outputs_of q) j 0) x) long_two
      ∙ ap (λ i. cell two g params (length q.tensors) i x) (output_new j)
      ∙ cell_same g (out j) x (out_there j)
      ∙ ap (λ i. cell one g params i (out j) x) (sym long_one)

  next_same : (b : Bool) (g : Given) → next b (outputs_of q) two params g ≡ next b (outputs_of p) one params g
  next_same b g = λ i. record { region = λ j x. next_region b g j x i; cell = λ j x. next_cell g j x i }

  after_same : (b : Bool) (t : ℕ) (g : Given) → after b (outputs_of q) two params t g ≡ after b (outputs_of p) one params t g
  after_same b zero g = refl
  after_same b (suc t) g =
      ap (next b (outputs_of q) two params) (after_same b t g) ∙ next_same b (after b (outputs_of p) one params t g)

  -- what stands after each iteration is the same
  pub run_same : (inputs : List (List ℤ)) (t : ℕ) → run_of q rows params inputs t ≡ run_of p rows params inputs t
  unfolding shared_at
  run_same inputs t = after_same (preserves p) t (whole (extents_at p rows) inputs)

  as_many : length (outputs_of q) ≡ length (outputs_of p)
  as_many = ap length outputs_new ∙ length-map (outputs_of p) (further k)

  arrays_by : (b : PlainProgram → Given → ℕ → List (List ℤ)) → (inputs : List (List ℤ)) → b q (run_of q rows params inputs p.iterate) (length (outputs_of q)) ≡ b q (run_of p rows params inputs p.iterate) (length (outputs_of p))
  arrays_by b inputs =
      ap (λ g. b q g (length (outputs_of q))) (run_same inputs p.iterate) ∙ ap (b q (run_of p rows params inputs p.iterate)) as_many

  pub arrays_same : (inputs : List (List ℤ)) → defined_arrays q rows params inputs ≡ defined_arrays p rows params inputs
  unfolding shared_at
  arrays_same inputs =
      arrays_by (λ r g m. listed (λ j. listed (λ i. g.cell j (point (extents_at p rows) i)) (cells_at p rows)) m) inputs
