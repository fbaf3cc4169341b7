-- The formula of a tensor of a number.
use Rattle.std.proofs.Common.{◌≡◌, ℕ, zero, suc, List, [], ◌∷◌, Some, None, map, option_map, slice_get, slice_index_or, refl, ap}
use Rattle.soda_ir.specs.declared.program.Tensor.{Tensor}
use Rattle.soda_ir.specs.Program.{plain_tensor}
use Rattle.soda_ir.specs.Tree.{formula_of}

-- the formula of a tensor that is there, and past the end
pub formula_got : (ts : List Tensor) (k : ℕ) (t : Tensor) → Some t ≡ slice_get ts k → option_map formula_of t.formula ≡ slice_index_or (map (λ t'. t'.formula) (map plain_tensor ts)) k None
formula_got [] k t e = cc
formula_got (x ∷ ts) zero t e = let g : t ≡ x = cc in ap (λ (u : Tensor). option_map formula_of u.formula) g
formula_got (x ∷ ts) (suc k) t e = formula_got ts k t e

pub no_formula_got : (ts : List Tensor) (k : ℕ) → None ≡ slice_get ts k → None ≡ slice_index_or (map (λ t'. t'.formula) (map plain_tensor ts)) k None
no_formula_got [] k e = refl
no_formula_got (x ∷ ts) zero e = cc
no_formula_got (x ∷ ts) (suc k) e = no_formula_got ts k e
