-- Params and tensors that are sized one by one.
use Rattle.std.proofs.Common.{◌≡◌, ℕ, ◌+◌, ◌<◌, List, [], ◌∷◌, ◌++◌, length, take, get_or, map, sym, ap, ◌∙◌, subst}
use Rattle.std.proofs.lemmas.List.{take_more}
use Rattle.soda_words.specs.IntType.{IsType}
use Rattle.soda_ir.specs.Program.{plain_param, plain_tensor}
use Rattle.soda_ir.specs.declared.program.Param.{Param}
use Rattle.soda_ir.specs.declared.program.Tensor.{Tensor}
use Rattle.soda_print.specs.Sized.{AreSizedParams, AreSizedTensors, IsSizedTensor}

params_end : (qs : List Param) (q : Param) → AreSizedParams (map plain_param qs) → IsType q.ty → AreSizedParams (map plain_param (qs ++ q ∷ []))
params_end [] q h k = (k, tt)
params_end (r ∷ qs) q h k = (h.0, params_end qs q h.1 k)

pub params_more : (qs : List Param) (i : ℕ) (q : Param) → i < length qs → q ≡ get_or qs i q → AreSizedParams (map plain_param (take i qs))
    → IsType q.ty → AreSizedParams (map plain_param (take (i + 1) qs))
params_more qs i q lt here h k =
    let next : take (i + 1) qs ≡ take i qs ++ q ∷ [] = take_more qs i q lt ∙ ap (λ r. take i qs ++ r ∷ []) (sym here) in
    subst (λ (rs : List Param). AreSizedParams (map plain_param rs)) (sym next) (params_end (take i qs) q h k)

tensors_end : (ts : List Tensor) (t : Tensor) → AreSizedTensors (map plain_tensor ts) → IsSizedTensor (plain_tensor t)
    → AreSizedTensors (map plain_tensor (ts ++ t ∷ []))
tensors_end [] t h k = (k, tt)
tensors_end (u ∷ ts) t h k = (h.0, tensors_end ts t h.1 k)

pub tensors_more : (ts : List Tensor) (i : ℕ) (t : Tensor) → i < length ts → t ≡ get_or ts i t → AreSizedTensors (map plain_tensor (take i ts))
    → IsSizedTensor (plain_tensor t) → AreSizedTensors (map plain_tensor (take (i + 1) ts))
tensors_more ts i t lt here h k =
    let next : take (i + 1) ts ≡ take i ts ++ t ∷ [] = take_more ts i t lt ∙ ap (λ u. take i ts ++ u ∷ []) (sym here) in
    subst (λ (us : List Tensor). AreSizedTensors (map plain_tensor us)) (sym next) (tensors_end (take i ts) t h k)
