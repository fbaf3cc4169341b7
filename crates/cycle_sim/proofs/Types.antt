-- The type of a tensor that was read from the program's parts.
use Rattle.std.proofs.Common.{◌≡◌, ℕ, zero, suc, List, [], ◌∷◌, map, Option, None, Some, slice_get, slice_index_or, sym, ap, ◌∙◌, arith, ⊎_elim}
use Rattle.std.proofs.lemmas.List.{get_or_past, length-map}
use Rattle.std.proofs.lemmas.Option.{none-some, slice_get_cases}
use Rattle.soda_words.specs.IntType.{IntType, int32}
use Rattle.soda_ir.specs.Program.{PlainProgram, plain_tensor}
use Rattle.soda_ir.specs.declared.program.Tensor.{Tensor}
use Rattle.time_stages.specs.declared.staging.StagedTensor.{StagedTensor}
use Rattle.time_stages.specs.Staged.{staged_tensors, type_of}
use Rattle.staged_cells.specs.Cells.{type_at}

-- the type in what was read, and int32 in None
abbrev pub type_in : Option Tensor → IntType
type_in o = elim o [ None ↦ int32 | Some t ↦ t.ty ]

pub type_read : (ts : List Tensor) (x : ℕ) (o : Option Tensor) → slice_get ts x ≡ o
    → type_in o ≡ slice_index_or (map (λ u. u.ty) (map plain_tensor ts)) x int32
type_read [] x o e = sym (ap type_in e)
type_read (t ∷ ts) zero o e = sym (ap type_in e)
type_read (t ∷ ts) (suc x) o e = type_read ts x o e

-- that of a staged tensor past the last
pub stage_past : (p : PlainProgram) (v : ℕ) → slice_get (staged_tensors p) v ≡ None → type_at p v ≡ int32
stage_past p v none =
    let ts : List StagedTensor = staged_tensors p in
    ⊎_elim
    (λ found. absurd (none-some found.0 (sym none ∙ found.2)))
    (λ past. get_or_past (map (λ (s : StagedTensor). type_of p s.tensor) ts) v int32 (omega (arith, past.0, length-map ts (λ (s : StagedTensor). type_of p s.tensor))))
    (slice_get_cases ts v).1
