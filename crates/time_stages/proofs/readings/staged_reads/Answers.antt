use Rattle.std.proofs.Common.{◌≡◌, ◌+◌, ◌<◌, [], length, sym, ◌∙◌, ap, subst, arith}
use Rattle.soda_ir.specs.declared.program.Parts.{Parts}
use Rattle.soda_ir.specs.Counts.{IsCountable}
use Rattle.soda_ir.specs.Program.{plain}
use Rattle.soda_ir.proofs.CallerLemmas.{countable}
use Rattle.time_stages.specs.declared.staging.StagedTensor.{StagedTensor}
use Rattle.time_stages.specs.Staged.{reads_of_first}
use Rattle.time_stages.proofs.Gathered.{first_next}
use Rattle.time_stages.proofs.StagedReads.{first_none}
use Rattle.time_stages.proofs.readings.staged_reads.Goals as goal

pub all_reads-requires : goal.all_reads-requires
all_reads-requires c =
    subst (λ (q : Parts). IsCountable (plain q)) (sym c.parts-parts.ensures.value) (countable (plain c.args.program.now) c.parts-parts.ensures.valid.sound)

pub loop-number-init : goal.loop-number-init
loop-number-init c =
    c.new-reads.ensures.items ∙ sym (first_none (plain c.args.program.now) c.args.tensors.now)

pub loop-number-preserved : goal.loop-number-preserved
loop-number-preserved c =
    let d : StagedTensor = record { turn = 0; tensor = 0; low = []; high = [] } in
    let q = c.parts-parts.result.now in
    let within : c.loop-number.number < length c.args.tensors.now = omega arith in
    let was : c.loop-number.reads.items ≡ reads_of_first (plain q) c.args.tensors.now c.loop-number.number = c.loop-number.invariant ∙ ap (λ (r : Parts). reads_of_first (plain r) c.args.tensors.now c.loop-number.number) (sym c.parts-parts.ensures.value) in
    first_next (plain q) c.args.tensors.now c.loop-number.number d c.loop-number.reads.items c.add_tensor.new.reads.items within was (c.in_ok-add_tensor.ensures d)
    ∙ ap (λ (r : Parts). reads_of_first (plain r) c.args.tensors.now (c.loop-number.number + 1)) c.parts-parts.ensures.value
