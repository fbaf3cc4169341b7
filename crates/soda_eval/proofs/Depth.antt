-- A deeper look changes nothing.
use Rattle.std.proofs.Common.{◌≡◌, ℕ, zero, suc, ◌<◌, Bool, true, ◌&&◌, List, Option, Some, None, ℤ, refl, sym, ◌∙◌, ap, nat_lt, arith, if◌then◌else◌}
use borrow.Author.Tests.{ltb-true}
use Rattle.int_types.specs.Ranges.{wrapped}
use Rattle.soda_ir.specs.Formula.{Formula}
use Rattle.soda_eval.specs.Values.{valued}
use Rattle.soda_eval.specs.Points.{in_box, moved}
use Rattle.soda_ir.specs.Formula.{every, by_formula}
use Rattle.soda_eval.specs.Arrays.{Stencil, Given, in_region, cell, formula_at, type_at, outside_cell, IsPlaced, IsMeaning}
use Rattle.soda_eval.proofs.Touched.{every_same, valued_same}
use Rattle.soda_eval.proofs.Steps.{region_step, cell_step}

module _ (s : Stencil) (g : Given) (params : List ℤ) (rank : ℕ → ℕ) (placed : IsPlaced s rank) where
  -- two looks at one formula
  region_by : (a b : ℕ → List ℤ → Bool) (x : ℕ) (p : List ℤ) → ((y : ℕ) (o : List ℤ) → nat_lt (rank y) (rank x) ≡ true → a y o ≡ b y o) → (f : Option Formula) → formula_at s x ≡ f → by_formula f (g.region x p) (every a) ≡ by_formula f (g.region x p) (every b)
  region_by a b x p h None e = refl
  region_by a b x p h (Some f) e = every_same (λ y o. nat_lt (rank y) (rank x)) a b h f (placed x f e)

  pub same_region : (k m x : ℕ) (p : List ℤ) → rank x < k → rank x < m → in_region s g k x p ≡ in_region s g m x p
  same_region zero m x p h l = absurd (omega arith)
  same_region (suc k) zero x p h l = absurd (omega arith)
  same_region (suc k) (suc m) x p h l =
      region_step s g k x p
      ∙ ap (λ b. in_box s.extents p && b) (region_by (λ y o. in_region s g k y (moved p o)) (λ y o. in_region s g m y (moved p o)) x p (λ y o z. same_region k m y (moved p o) (omega (arith, ltb-true (rank y) (rank x) z)) (omega (arith, ltb-true (rank y) (rank x) z))) (formula_at s x) refl)
      ∙ sym (region_step s g m x p)

  cell_by : (a b : ℕ → List ℤ → ℤ) (x : ℕ) (p : List ℤ) (r : Bool) → ((y : ℕ) (o : List ℤ) → nat_lt (rank y) (rank x) ≡ true → a y o ≡ b y o) → (f : Option Formula) → formula_at s x ≡ f → by_formula f (g.cell x p) (λ f'. if r then wrapped (type_at s x) (valued s.scope a params f') else outside_cell s g x p) ≡ by_formula f (g.cell x p) (λ f'. if r then wrapped (type_at s x) (valued s.scope b params f') else outside_cell s g x p)
  cell_by a b x p r h None e = refl
  cell_by a b x p r h (Some f) e =
      ap (λ v. if r then wrapped (type_at s x) v else outside_cell s g x p) (valued_same (λ y o. nat_lt (rank y) (rank x)) s.scope params a b h f (placed x f e))

  pub same_cell : (k m x : ℕ) (p : List ℤ) → rank x < k → rank x < m → cell s g params k x p ≡ cell s g params m x p
  same_cell zero m x p h l = absurd (omega arith)
  same_cell (suc k) zero x p h l = absurd (omega arith)
  same_cell (suc k) (suc m) x p h l =
      cell_step s g params k x p
      ∙ ap (λ b. by_formula (formula_at s x) (g.cell x p) (λ f. if b then wrapped (type_at s x) (valued s.scope (λ y o. cell s g params k y (moved p o)) params f) else outside_cell s g x p)) (same_region (suc k) (suc m) x p h l)
      ∙ cell_by (λ y o. cell s g params k y (moved p o)) (λ y o. cell s g params m y (moved p o)) x p (in_region s g (suc m) x p) (λ y o z. same_cell k m y (moved p o) (omega (arith, ltb-true (rank y) (rank x) z)) (omega (arith, ltb-true (rank y) (rank x) z))) (formula_at s x) refl
      ∙ sym (cell_step s g params m x p)

  region_equation : (k x : ℕ) (p : List ℤ) → ((y : ℕ) → rank y < k) → in_region s g k x p ≡ (in_box s.extents p && by_formula (formula_at s x) (g.region x p) (every (λ y o. in_region s g k y (moved p o))))
  region_equation zero x p h = absurd (omega (arith, h x))
  region_equation (suc k) x p h =
      region_step s g k x p
      ∙ ap (λ b. in_box s.extents p && b) (region_by (λ y o. in_region s g k y (moved p o)) (λ y o. in_region s g (suc k) y (moved p o)) x p (λ y o z. same_region k (suc k) y (moved p o) (omega (arith, ltb-true (rank y) (rank x) z, h x)) (h y)) (formula_at s x) refl)

  cell_equation : (k x : ℕ) (p : List ℤ) → ((y : ℕ) → rank y < k) → cell s g params k x p ≡ by_formula (formula_at s x) (g.cell x p) (λ f. if in_region s g k x p then wrapped (type_at s x) (valued s.scope (λ y o. cell s g params k y (moved p o)) params f) else outside_cell s g x p)
  cell_equation zero x p h = absurd (omega (arith, h x))
  cell_equation (suc k) x p h =
      cell_step s g params k x p
      ∙ cell_by (λ y o. cell s g params k y (moved p o)) (λ y o. cell s g params (suc k) y (moved p o)) x p (in_region s g (suc k) x p) (λ y o z. same_cell k (suc k) y (moved p o) (omega (arith, ltb-true (rank y) (rank x) z, h x)) (h y)) (formula_at s x) refl

  -- at a depth above every rank the sentences hold
  pub depth_means : (k : ℕ) → ((y : ℕ) → rank y < k) → IsMeaning s g params (in_region s g k) (cell s g params k)
  depth_means k h = record { regions = λ x p. region_equation k x p h; cells = λ x p. cell_equation k x p h }

  -- there is one family of regions for which the sentences hold
  pub one_region : (region : ℕ → List ℤ → Bool) (value : ℕ → List ℤ → ℤ) → IsMeaning s g params region value → (k x : ℕ) (p : List ℤ) → rank x < k → region x p ≡ in_region s g k x p
  one_region region value m zero x p h = absurd (omega arith)
  one_region region value m (suc k) x p h =
      m.regions x p
      ∙ ap (λ b. in_box s.extents p && b) (region_by (λ y o. region y (moved p o)) (λ y o. in_region s g k y (moved p o)) x p (λ y o z. one_region region value m k y (moved p o) (omega (arith, ltb-true (rank y) (rank x) z))) (formula_at s x) refl)
      ∙ sym (region_step s g k x p)

  -- and one of cells
  pub one_cell : (region : ℕ → List ℤ → Bool) (value : ℕ → List ℤ → ℤ) → IsMeaning s g params region value → (k x : ℕ) (p : List ℤ) → rank x < k → value x p ≡ cell s g params k x p
  one_cell region value m zero x p h = absurd (omega arith)
  one_cell region value m (suc k) x p h =
      m.cells x p
      ∙ ap (λ b. by_formula (formula_at s x) (g.cell x p) (λ f. if b then wrapped (type_at s x) (valued s.scope (λ y o. value y (moved p o)) params f) else outside_cell s g x p)) (one_region region value m (suc k) x p h)
      ∙ cell_by (λ y o. value y (moved p o)) (λ y o. cell s g params k y (moved p o)) x p (in_region s g (suc k) x p) (λ y o z. one_cell region value m k y (moved p o) (omega (arith, ltb-true (rank y) (rank x) z))) (formula_at s x) refl
      ∙ sym (cell_step s g params k x p)
