-- Where the values of a param begin.
use Rattle.std.proofs.Common.{◌≡◌, ℕ, zero, suc, ◌+◌, ◌<◌, List, [], ◌∷◌, map, take, length, slice_index_or, ◌∙◌, ap, arith}
use Rattle.std.proofs.lemmas.List.Sums.{sum_by-cons}
use Rattle.std.proofs.lemmas.List.{length-map, take-map}
use Rattle.soda_ir.specs.Points.{size}
use Rattle.std.proofs.lemmas.Grind.{common_steps}
use Rattle.soda_ir.specs.declared.program.Param.{Param}
use Rattle.soda_ir.specs.Program.{PlainParam, plain_param}
use Rattle.soda_eval.specs.Runs.{starts_from}
use Rattle.soda_ir.specs.Valid.{value_count}

-- one more of the front of a list
pub take-suc-cons : (q : PlainParam) (qs : List PlainParam) (p : ℕ) → take (suc p) (q ∷ qs) ≡ q ∷ take p qs
take-suc-cons q qs p = grind (arith, common_steps)

pub starts_at : (k : ℕ) (qs : List PlainParam) (p : ℕ) → p < length qs → slice_index_or (starts_from k qs) p 0 ≡ k + value_count (take p qs)
starts_at k [] p h = absurd (omega arith)
starts_at k (q ∷ qs) zero h = omega arith
starts_at k (q ∷ qs) (suc p) h =
    starts_at (k + size q.sizes) qs p (omega arith) ∙ rw take-suc-cons (omega (arith, sum_by-cons (λ (r : PlainParam). size r.sizes) q (take p qs)))

-- where the values of a param begin: behind those of the params before it
pub starts_behind : (qs : List Param) (p : ℕ) → p < length qs → slice_index_or (starts_from 0 (map plain_param qs)) p 0 ≡ value_count (map plain_param (take p qs))
starts_behind qs p h =
    starts_at 0 (map plain_param qs) p (simp length-map h) ∙ omega arith ∙ ap value_count (take-map plain_param p qs)
