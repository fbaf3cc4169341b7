-- A cell from the cells that it reads, wherever these are kept.
use Rattle.std.proofs.Common.{◌≡◌, ℕ, ◌<◌, Bool, true, false, ◌&&◌, List, Some, ℤ, pos, unsigned_abs, refl, sym, ◌∙◌, ap, if◌then◌else◌, slice_index_or}
use Rattle.std.proofs.lemmas.Bool.{and_parts}
use Rattle.int_types.specs.Ranges.{wrapped}
use Rattle.soda_ir.specs.Formula.{Formula}
use Rattle.soda_eval.specs.Values.{Values, valued}
use Rattle.soda_ir.specs.Points.{size, linear}
use Rattle.soda_eval.specs.Points.{in_box, point, moved}
use Rattle.soda_ir.specs.Formula.{every, by_formula}
use Rattle.soda_eval.specs.Arrays.{Stencil, Given, formula_at, type_at, outside_cell, IsMeaning, array_cell}
use Rattle.soda_eval.proofs.Touched.{valued_same}
use Rattle.soda_eval.proofs.Numbers.{number_back}

module _ (s : Stencil) (g : Given) (params : List ℤ) (region : ℕ → List ℤ → Bool) (value : ℕ → List ℤ → ℤ) (m : IsMeaning s g params region value) where
  at_formula : (x : ℕ) (f : Formula) (p : List ℤ) → formula_at s x ≡ Some f → region x p ≡ (in_box s.extents p && every (λ y o. region y (moved p o)) f)
  at_formula x f p e = m.regions x p ∙ ap (λ h. in_box s.extents p && by_formula h (g.region x p) (every (λ y o. region y (moved p o)))) e

  -- both sides where it is known whether the point is in the region
  by_region : (c : Values) (f : Formula) (p : List ℤ) (x : ℕ) → ((y : ℕ) (o : List ℤ) → region y (moved p o) ≡ true → value y (moved p o) ≡ c y o) → (b : Bool) → (b ≡ true → every (λ y o. region y (moved p o)) f ≡ true) → (if b then wrapped (type_at s x) (valued s.scope (λ y o. value y (moved p o)) params f) else outside_cell s g x p) ≡ (if b then wrapped (type_at s x) (valued s.scope c params f) else outside_cell s g x p)
  by_region c f p x h true e =
      ap (λ v. wrapped (type_at s x) v) (valued_same (λ y o. region y (moved p o)) s.scope params (λ y o. value y (moved p o)) c h f (e refl))
  by_region c f p x h false e = refl

  pub cell_from : (c : Values) (f : Formula) (p : List ℤ) (x : ℕ) → formula_at s x ≡ Some f → ((y : ℕ) (o : List ℤ) → region y (moved p o) ≡ true → value y (moved p o) ≡ c y o) → value x p ≡ (if region x p then wrapped (type_at s x) (valued s.scope c params f) else outside_cell s g x p)
  cell_from c f p x e h =
      m.cells x p
      ∙ ap (λ k. by_formula k (g.cell x p) (λ f'. if region x p then wrapped (type_at s x) (valued s.scope (λ y o. value y (moved p o)) params f') else outside_cell s g x p)) e
      ∙ by_region c f p x h (region x p) (λ z. (and_parts (in_box s.extents p) (every (λ y o. region y (moved p o)) f) (sym (at_formula x f p e) ∙ z)).1)

-- an array that holds the cells by number holds them by point
pub by_point : (ns : List ℕ) (value : List ℤ → ℤ) (array : List ℤ) → ((i : ℕ) → i < size ns → slice_index_or array i (pos 0) ≡ value (point ns i)) → (q : List ℤ) → in_box ns q ≡ true → array_cell ns array q ≡ value q
by_point ns value array h q e =
    let k = number_back ns q e in
    ap (λ b. if b then slice_index_or array (unsigned_abs (linear ns q)) (pos 0) else pos 0) e ∙ h (unsigned_abs (linear ns q)) k.1 ∙ ap value k.2
