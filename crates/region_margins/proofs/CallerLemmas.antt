-- What crates above cite: that regions keep margins, and that there are margins for each dimension.
use Rattle.std.proofs.Common.{◌≡◌, ℕ, ◌<◌, List, [], ℤ, length}
use Rattle.soda_ir.specs.Program.{PlainProgram, extents_at}
use Rattle.soda_ir.specs.Valid.{IsSound}
use Rattle.soda_eval.specs.Arrays.{in_region}
use Rattle.soda_eval.specs.Runs.{run_of, stencil_of}
use Rattle.time_stages.specs.Margins.{keeps_away, margins_of}
use Rattle.region_margins.proofs.Regions.{tensor_kept}

pub region_margins : (p : PlainProgram) → IsSound p → (rows : ℕ) (params : List ℤ) (inputs : List (List ℤ)) (t x : ℕ) (q : List ℤ) → x < length p.tensors
    → in_region (stencil_of p rows) (run_of p rows params inputs t) (length p.tensors) x q ≡ keeps_away (extents_at p rows) (margins_of p t x).low (margins_of p t x).high q
region_margins p sound rows params inputs t x q l = (tensor_kept p sound rows params inputs t x q l).is

pub margins_by_dimension : (p : PlainProgram) → IsSound p → (rows t x : ℕ) → x < length p.tensors
    → (length (margins_of p t x).low ≡ length (extents_at p rows)) × (length (margins_of p t x).high ≡ length (extents_at p rows))
margins_by_dimension p sound rows t x l =
    let kept = tensor_kept p sound rows [] [] t x [] l in (kept.low_dims, kept.high_dims)
