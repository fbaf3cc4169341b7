use Rattle.std.proofs.Common.{◌≡◌, List, length, sym, ◌∙◌, ap}
use Rattle.delay_net.specs.declared.net.Read.{Read}
use Rattle.soda_ir.specs.Program.{plain}
use Rattle.time_stages.specs.declared.staging.Staged.{Staged}
use Rattle.time_stages.specs.declared.staging.StagedTensor.{StagedTensor}
use Rattle.time_stages.specs.Staged.{reads_of_first, staged_reads, staged_tensors}
use Rattle.time_stages.proofs.StagedReads.{reads_are_first}
use Rattle.time_stages.proofs.staging.stage.Goals as goal

pub returns : goal.returns
returns c =
    let p = plain c.args.program.now in
    let tensors : c.from_vec-tensors.result ≡ staged_tensors p = c.from_vec-tensors.ensures ∙ c.in_ok-staged_tensors.ensures.value in
    let lent : c.as_slice.result.now ≡ staged_tensors p = c.as_slice.ensures ∙ tensors in
    let reads : c.from_vec-reads.result ≡ staged_reads p = c.from_vec-reads.ensures ∙ c.in_ok-staged_reads.ensures ∙ ap (λ (ts : List StagedTensor). reads_of_first p ts (length ts)) lent ∙ sym (reads_are_first p) in
    let with_tensors : List StagedTensor → Staged = λ ts. record { tensors = ts; reads = c.from_vec-reads.result } in
    let with_reads : List Read → Staged = λ rs. record { tensors = staged_tensors p; reads = rs } in
    ap with_tensors tensors ∙ ap with_reads reads
