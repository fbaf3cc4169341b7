-- The types of tensors and params by their numbers.
use Rattle.std.proofs.Common.{◌≡◌, ℕ, zero, suc, List, [], ◌∷◌, Some, None, map, slice_get, slice_index_or, refl, ap}
use Rattle.soda_words.specs.IntType.{int32}
use Rattle.soda_ir.specs.declared.program.Param.{Param}
use Rattle.soda_ir.specs.declared.program.Tensor.{Tensor}
use Rattle.soda_ir.specs.Program.{PlainParam, PlainTensor, plain_param, plain_tensor}

pub tensor_got : (ts : List Tensor) (i : ℕ) (t : Tensor) → Some t ≡ slice_get ts i → t.ty ≡ slice_index_or (map (λ (u : PlainTensor). u.ty) (map plain_tensor ts)) i int32
tensor_got [] i t e = cc
tensor_got (u ∷ us) zero t e = let same : t ≡ u = cc in ap (λ (v : Tensor). v.ty) same
tensor_got (u ∷ us) (suc i) t e = tensor_got us i t e

pub no_tensor : (ts : List Tensor) (i : ℕ) → None ≡ slice_get ts i → int32 ≡ slice_index_or (map (λ (u : PlainTensor). u.ty) (map plain_tensor ts)) i int32
no_tensor [] i e = refl
no_tensor (u ∷ us) zero e = cc
no_tensor (u ∷ us) (suc i) e = no_tensor us i e

pub param_got : (ps : List Param) (i : ℕ) (p : Param) → Some p ≡ slice_get ps i → p.ty ≡ slice_index_or (map (λ (q : PlainParam). q.ty) (map plain_param ps)) i int32
param_got [] i p e = cc
param_got (q ∷ qs) zero p e = let same : p ≡ q = cc in ap (λ (r : Param). r.ty) same
param_got (q ∷ qs) (suc i) p e = param_got qs i p e

pub no_param : (ps : List Param) (i : ℕ) → None ≡ slice_get ps i → int32 ≡ slice_index_or (map (λ (q : PlainParam). q.ty) (map plain_param ps)) i int32
no_param [] i e = refl
no_param (q ∷ qs) zero e = cc
no_param (q ∷ qs) (suc i) e = no_param qs i e
