-- The numbers of the outputs: no two are the same, and none is that of an input.
use Rattle.std.proofs.Common.{◌≡◌, ◌≢◌, ℕ, ◌<◌, ◌≤◌, length, slice_index_or, sym, ◌∙◌, ap, arith, ⊎_elim}
use Rattle.std.proofs.lemmas.Bool.{cases_lt}
use Rattle.soda_ir.specs.Counts.{output_number}
use Rattle.soda_ir.specs.Program.{PlainProgram, input_types, outputs_of}
use Rattle.soda_ir.specs.Valid.{IsSound}
use Rattle.soda_ir.proofs.CallerLemmas.{as_many_outputs, input_known}
use Rattle.time_stages.proofs.CallerLemmas.{no_input_output, output_is, outputs_below}

module _ (p : PlainProgram) where
  pub outputs_apart : (i j : ℕ) → i < j → j < length (outputs_of p) → slice_index_or (outputs_of p) i 0 ≢ slice_index_or (outputs_of p) j 0
  outputs_apart i j l m e =
      let same : i ≡ j = sym (output_is p i (omega arith)).1 ∙ ap (output_number p) e ∙ (output_is p j m).1 in
      omega arith

  module _ (sound : IsSound p) (iterated : p.iterate ≢ 1) where
    as_many : length (input_types p.tensors) ≡ length (outputs_of p)
    as_many = ap length (sound.fits.iterated iterated) ∙ sym (as_many_outputs 0 p.tensors)

    pub outputs_behind : (j : ℕ) → j < length (outputs_of p) → length (outputs_of p) ≤ slice_index_or (outputs_of p) j 0
    outputs_behind j l =
        let x = slice_index_or (outputs_of p) j 0 in
        ⊎_elim (λ (b : x < length (outputs_of p)). absurd (no_input_output p.tensors x (input_known p.tensors x sound.ends.inputs_first (omega (arith, as_many))) (output_is p j l).0)) (λ (b : length (outputs_of p) ≤ x). b) (cases_lt x (length (outputs_of p)))

    pub outputs_few : length (outputs_of p) ≤ length p.tensors
    outputs_few =
        ⊎_elim (λ (b : 0 < length (outputs_of p)). omega (arith, outputs_behind 0 b, outputs_below p 0 b)) (λ (b : length (outputs_of p) ≤ 0). omega arith) (cases_lt 0 (length (outputs_of p)))
