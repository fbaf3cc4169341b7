use Rattle.std.proofs.Common.{length, ◌∙◌, ap, arith}
use Rattle.std.proofs.lemmas.List.{length-map}
use Rattle.soda_ir.specs.declared.program.Parts.{Parts}
use Rattle.soda_ir.specs.Counts.{reach}
use Rattle.soda_ir.specs.Program.{plain, plain_tensor}
use Rattle.soda_ir.proofs.CallerLemmas.{countable, reach_of}
use Rattle.time_stages.specs.declared.staging.Staged.{Staged}
use Rattle.time_stages.proofs.CallerLemmas.{tensors_counted}
use Rattle.staged_cells.proofs.module.ports_of.Goals as goal

pub invariant_of-result : goal.invariant_of-result
invariant_of-result c =
    let p = plain c.args.program.now in
    let valid = c.parts.ensures.valid in
    record {
      few = omega (arith, ap length (c.as_slice.ensures ∙ ap (λ (s : Staged). s.tensors) c.requires), tensors_counted p valid.sound, valid.few_live);
      within = omega (
        arith,
        ap
            (λ (q : Parts). length q.tensors) c.parts.ensures.value,
        length-map c.args.program.now.tensors plain_tensor,
        valid.sound.limits.few_tensors,
      );
      small = omega (arith, ap (λ (q : Parts). reach q.extents) c.parts.ensures.value, reach_of p (countable p valid.sound));
    }
