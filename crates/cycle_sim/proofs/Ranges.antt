-- The cells of a staged tensor are in the range of its type.
use Rattle.std.proofs.Common.{◌≡◌, ℕ, List, Option, None, Some, ℤ, pos, slice_get, refl, sym, ap, subst, ◌∙◌}
use Rattle.std.proofs.lemmas.List.{get_or-map}
use Rattle.std.proofs.lemmas.Option.{get_or_from_slice_get, slice_get_within}
use Rattle.soda_words.specs.IntType.{int32}
use Rattle.int_types.specs.Ranges.{InRange}
use Rattle.int_types.proofs.CallerLemmas.{zero_in_range}
use Rattle.soda_ir.specs.Program.{PlainProgram}
use Rattle.time_stages.specs.declared.staging.StagedTensor.{StagedTensor}
use Rattle.time_stages.specs.Staged.{staged_tensors, type_of}
use Rattle.staged_cells.specs.Cells.{defined_cell, type_at}
use Rattle.staged_cells.specs.Streams.{stage_cell}

module _ (p : PlainProgram) (rows : ℕ) (params : List ℤ) (inputs : List (List ℤ)) (v : ℕ) (z : ℤ) where
  of_stage : (o : Option StagedTensor) → slice_get (staged_tensors p) v ≡ o
      → ((s : StagedTensor) → o ≡ Some s → InRange (type_of p s.tensor) (defined_cell p rows params inputs s z))
      → InRange (type_at p v) (elim o [ None ↦ pos 0 | Some s ↦ defined_cell p rows params inputs s z ])
  of_stage None e cells = zero_in_range (type_at p v)
  of_stage (Some s) e cells =
      let type : type_at p v ≡ type_of p s.tensor = get_or-map (λ (t : StagedTensor). type_of p t.tensor) (staged_tensors p) v s int32
      (slice_get_within (staged_tensors p) v s e)
      ∙ ap (λ (t : StagedTensor). type_of p t.tensor) (get_or_from_slice_get (staged_tensors p) v s s e) in
      subst (λ t. InRange t (defined_cell p rows params inputs s z)) (sym type) (cells s refl)

  pub stage_in_range : ((s : StagedTensor) → slice_get (staged_tensors p) v ≡ Some s
      → InRange (type_of p s.tensor) (defined_cell p rows params inputs s z)) → InRange (type_at p v) (stage_cell p rows params inputs v z)
  unfolding stage_cell
  stage_in_range cells = of_stage (slice_get (staged_tensors p) v) refl cells
