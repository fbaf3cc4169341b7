-- What is written into a cell is the cell that is defined.
use Rattle.std.proofs.Common.{◌≡◌, ℕ, zero, suc, ◌<◌, Bool, true, false, not, ◌&&◌, List, [], ◌∷◌, ◌++◌, ℤ, pos, All, Option, Some, None, length, map, slice_get, slice_index_or, refl, sym, ◌∙◌, ap, arith, if◌then◌else◌}
use Rattle.std.specs.List.{list_all}
use Rattle.std.proofs.lemmas.Bool.{and_parts, false≢true, or_left}
use Rattle.std.proofs.lemmas.List.{get_or_past}
use Rattle.std.proofs.lemmas.List.Elements.{All-append, All-cons, All-nil}
use Rattle.int_types.specs.Ranges.{wrapped}
use Rattle.soda_ir.specs.Counts.{formula_in, is_input, is_input_role}
use Rattle.soda_ir.specs.Formula.{Formula, by_formula, every}
use Rattle.soda_ir.specs.Points.{listed}
use Rattle.soda_ir.specs.Program.{PlainProgram, PlainTensor, extents_at}
use Rattle.soda_ir.specs.Valid.{IsSound, has_formula_if_no_input}
use Rattle.soda_ir.proofs.CallerLemmas.{every_both, get-listed, input_bare}
use Rattle.soda_eval.specs.Arrays.{Given, IsMeaning, Stencil, array_cell, cell, in_region, outside_cell, type_at}
use Rattle.soda_eval.specs.Points.{in_box, moved, point}
use Rattle.soda_eval.specs.Runs.{borders_of, cells_at, scope_of, stencil_of}
use Rattle.soda_eval.specs.Values.{valued}
use Rattle.soda_eval.proofs.CallerLemmas.{border_input, by_point, depth_means, every_same, rank, ranks, ranks_below, valued_same}
use Rattle.time_stages.specs.declared.margins.Margins.{Margins}
use Rattle.time_stages.specs.Placing.{is_there}
use Rattle.soda_run.specs.pieces.Filled.{array_of, cell_made, is_kept, made, outside_of}

if_same : (b c : Bool) (v v' w w' : ℤ) → b ≡ c → (c ≡ true → v ≡ v') → w ≡ w' → (if b then v else w) ≡ (if c then v' else w')
if_same b true v v' w w' e h k = ap (λ d. if d then v else w) e ∙ h refl
if_same b false v v' w w' e h k = ap (λ d. if d then v else w) e ∙ k

none_at : (i : ℕ) → slice_index_or [] i (pos 0) ≡ pos 0
none_at i = get_or_past [] i (pos 0) (omega arith)

pub array_of-is : (p : PlainProgram) (rows : ℕ) (g : Given) (params : List ℤ) (x : ℕ) → array_of p rows g params x ≡ listed (λ i. cell (stencil_of p rows) g params (length p.tensors) x (point (extents_at p rows) i)) (cells_at p rows)
unfolding array_of
array_of-is p rows g params x = refl

module _ (p : PlainProgram) (sound : IsSound p) (rows : ℕ) (g : Given) (params : List ℤ) where
  abbrev box : List ℕ
  box = extents_at p rows

  abbrev stencil : Stencil
  stencil = stencil_of p rows

  abbrev region : ℕ → List ℤ → Bool
  region y q = in_region stencil g (length p.tensors) y q

  abbrev value : ℕ → List ℤ → ℤ
  value y q = cell stencil g params (length p.tensors) y q

  pub means : IsMeaning stencil g params (in_region stencil g (length p.tensors)) (cell stencil g params (length p.tensors))
  means = depth_means stencil g params (rank p) (ranks p sound rows) (length p.tensors) (ranks_below p sound)

  -- a cell of an array that is filled
  pub array_at : (y : ℕ) (q : List ℤ) → in_box box q ≡ true → array_cell box (array_of p rows g params y) q ≡ value y q
  array_at y q e =
      ap (λ cells. array_cell box cells q) (array_of-is p rows g params y)
      ∙ by_point box (value y) (listed (λ i. value y (point box i)) (cells_at p rows)) (λ i l. get-listed (λ j. value y (point box j)) (cells_at p rows) i (pos 0) l) q e

  region_boxed : (y : ℕ) (q : List ℤ) → region y q ≡ true → in_box box q ≡ true
  region_boxed y q e =
      (and_parts (in_box box q) (by_formula (formula_in p y) (g.region y q) (every (λ z o. region z (moved q o)))) (sym (means.regions y q) ∙ e)).0

  -- in the region all reads are in their regions, and so in the box
  region_reads : (x : ℕ) (f : Formula) (q : List ℤ) → formula_in p x ≡ Some f → region x q ≡ true → every (λ y o. region y (moved q o)) f ≡ true
  region_reads x f q e r =
      (and_parts (in_box box q) (every (λ y o. region y (moved q o)) f) (sym (ap (λ h. in_box box q && by_formula h (g.region x q) (every (λ y o. region y (moved q o)))) e) ∙ sym (means.regions x q) ∙ r)).1

  pub reads_boxed : (x : ℕ) (f : Formula) (q : List ℤ) → formula_in p x ≡ Some f → region x q ≡ true → every (λ y o. in_box box (moved q o)) f ≡ true
  reads_boxed x f q e r =
      let reads = region_reads x f q e r in
      sym (every_same (λ y o. region y (moved q o)) (λ y o. region y (moved q o)) (λ y o. in_box box (moved q o)) (λ y o h. h ∙ sym (region_boxed y (moved q o) h)) f reads) ∙ reads

  module _ (done : List ℕ) (arrays : List (List ℤ)) (filled : (y : ℕ) → is_there p done y ≡ true → slice_index_or arrays y [] ≡ array_of p rows g params y) where
    -- the value of a formula all of whose reads are filled
    value_made : (x : ℕ) (f : Formula) (i : ℕ) → formula_in p x ≡ Some f → every (λ y o. is_there p done y) f ≡ true → region x (point box i) ≡ true
        → cell_made p rows arrays params x i ≡ wrapped (type_at stencil x) (valued stencil.scope (λ y o. value y (moved (point box i) o)) params f)
    unfolding cell_made
    value_made x f i e there r =
        let q = point box i in
        ap (λ h. wrapped (type_at stencil x) (by_formula h (pos 0) (valued (scope_of p) (λ y o. array_cell box (slice_index_or arrays y []) (moved q o)) params))) e
        ∙ ap (λ v. wrapped (type_at stencil x) v) (valued_same (λ y o. is_there p done y && region y (moved q o)) (scope_of p) params (λ y o. array_cell box (slice_index_or arrays y []) (moved q o)) (λ y o. value y (moved q o))
        (λ y o h. let both = and_parts (is_there p done y) (region y (moved q o)) h in ap (λ cells. array_cell box cells (moved q o)) (filled y both.0) ∙ array_at y (moved q o) (region_boxed y (moved q o) both.1))
        f (every_both (λ y o. is_there p done y) (λ y o. region y (moved q o)) f there (region_reads x f q e r)))

    -- what stands outside the region
    outside_by : (x i : ℕ) (o : Option ℕ) → i < cells_at p rows → slice_index_or (borders_of p) x None ≡ o → slice_index_or (elim o [ None ↦ [] | Some j ↦ slice_index_or arrays j [] ]) i (pos 0) ≡ elim o [ None ↦ pos 0 | Some j ↦ g.cell j (point box i) ]
    outside_by x i None l e = none_at i
    outside_by x i (Some j) l e =
        let input : is_input p j ≡ true = (border_input p sound rows params x j e).0 in
        ap (λ cells. slice_index_or cells i (pos 0)) (filled j (or_left (is_input p j) _ input) ∙ array_of-is p rows g params j)
        ∙ get-listed (λ k. value j (point box k)) (cells_at p rows) i (pos 0) l
        ∙ means.cells j (point box i)
        ∙ ap (λ h. by_formula h (g.cell j (point box i)) (λ f. if region j (point box i) then wrapped (type_at stencil j) (valued stencil.scope (λ y o. value y (moved (point box i) o)) params f) else outside_cell stencil g j (point box i))) (input_bare p.tensors j sound.parts.formulas input)

    pub made_is_cell : (x : ℕ) (f : Formula) (m : Margins) (i : ℕ) → formula_in p x ≡ Some f → every (λ y o. is_there p done y) f ≡ true → i < cells_at p rows → is_kept p rows m i ≡ region x (point box i)
        → made p rows arrays params x m (outside_of p arrays x) i ≡ value x (point box i)
    unfolding made
    made_is_cell x f m i e there l k =
        let q = point box i in
        if_same (is_kept p rows m i) (region x q) (cell_made p rows arrays params x i) (wrapped (type_at stencil x) (valued stencil.scope (λ y o. value y (moved q o)) params f)) (slice_index_or (outside_of p arrays x) i (pos 0)) (outside_cell stencil g x q) k (value_made x f i e there) (outside_by x i (slice_index_or (borders_of p) x None) l refl)
        ∙ sym (means.cells x q ∙ ap (λ h. by_formula h (g.cell x q) (λ f'. if region x q then wrapped (type_at stencil x) (valued stencil.scope (λ y o. value y (moved q o)) params f') else outside_cell stencil g x q)) e)

-- the two cases of what is written
module _ (p : PlainProgram) (rows : ℕ) (arrays : List (List ℤ)) (params : List ℤ) (x : ℕ) (m : Margins) (outside : List ℤ) (i : ℕ) (v : ℤ) where
  pub made_inside : is_kept p rows m i ≡ true → v ≡ cell_made p rows arrays params x i → v ≡ made p rows arrays params x m outside i
  unfolding made
  made_inside k e =
      e ∙ sym (ap (λ b. if b then cell_made p rows arrays params x i else slice_index_or outside i (pos 0)) k)

  pub made_outside : is_kept p rows m i ≡ false → v ≡ slice_index_or outside i (pos 0) → v ≡ made p rows arrays params x m outside i
  unfolding made
  made_outside k e =
      e ∙ sym (ap (λ b. if b then cell_made p rows arrays params x i else slice_index_or outside i (pos 0)) k)
