-- The equations of regions and cells.
use Rattle.std.proofs.Common.{◌≡◌, ℕ, suc, ◌&&◌, List, ℤ, refl, if◌then◌else◌}
use Rattle.int_types.specs.Ranges.{wrapped}
use Rattle.soda_eval.specs.Values.{valued}
use Rattle.soda_eval.specs.Points.{in_box, moved}
use Rattle.soda_ir.specs.Formula.{every, by_formula}
use Rattle.soda_eval.specs.Arrays.{Stencil, Given, in_region, cell, formula_at, type_at, outside_cell}

pub region_step : (s : Stencil) (g : Given) (k x : ℕ) (p : List ℤ) → in_region s g (suc k) x p ≡ (in_box s.extents p && by_formula (formula_at s x) (g.region x p) (every (λ y o. in_region s g k y (moved p o))))
unfolding in_region
region_step s g k x p = refl

pub cell_step : (s : Stencil) (g : Given) (params : List ℤ) (k x : ℕ) (p : List ℤ) → cell s g params (suc k) x p ≡ by_formula (formula_at s x) (g.cell x p) (λ f. if in_region s g (suc k) x p then wrapped (type_at s x) (valued s.scope (λ y o. cell s g params k y (moved p o)) params f) else outside_cell s g x p)
unfolding cell
cell_step s g params k x p = refl
