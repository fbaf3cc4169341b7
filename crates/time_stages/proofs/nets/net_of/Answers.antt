use Rattle.std.proofs.Common.{◌≡◌, ◌<◌, List, ℕ, length, map, sym, ◌∙◌, ap, subst}
use Rattle.std.specs.List.{All}
use Rattle.std.proofs.lemmas.List.{length-map}
use Rattle.std.proofs.lemmas.Result.{IfOk-weaker}
use Rattle.delay_net.specs.declared.net.Read.{Read}
use Rattle.delay_net.specs.Shape.{IsNet, IsWidth}
use Rattle.soda_ir.specs.declared.program.Parts.{Parts}
use Rattle.soda_ir.specs.Program.{plain, plain_tensor}
use Rattle.time_stages.specs.declared.staging.Staged.{Staged}
use Rattle.time_stages.specs.declared.staging.StagedTensor.{StagedTensor}
use Rattle.time_stages.specs.Staged.{staged_reads, staged_tensors, staged_widths, type_of}
use Rattle.time_stages.proofs.StagedLists.{tensors_within}
use Rattle.time_stages.proofs.StagedReads.{net_is, widths_are}
use Rattle.time_stages.proofs.nets.net_of.Goals as goal

pub widths-requires : goal.widths-requires
widths-requires c =
    let p = plain c.args.program.now in
    let lent : c.as_slice.result.now ≡ staged_tensors p = c.as_slice.ensures ∙ ap (λ (s : Staged). s.tensors) c.requires in
    let many : length p.tensors ≡ length c.parts.result.now.tensors = length-map c.args.program.now.tensors plain_tensor ∙ ap (λ (q : Parts). length q.tensors) (sym c.parts.ensures.value) in
    subst (λ (n : ℕ). All (λ (s : StagedTensor). s.tensor < n) c.as_slice.result.now) many (subst (λ (ts : List StagedTensor). All (λ (s : StagedTensor). s.tensor < length p.tensors) ts) (sym lent) (tensors_within p))

pub new-requires : goal.new-requires
new-requires c =
    let p = plain c.args.program.now in
    let lent : c.as_slice.result.now ≡ staged_tensors p = c.as_slice.ensures ∙ ap (λ (s : Staged). s.tensors) c.requires in
    let weights : c.deref.result.now ≡ staged_widths p = c.deref.ensures.value ∙ c.in_ok-weights.ensures.value
    ∙ ap (λ (q : Parts). map (λ (s : StagedTensor). (type_of (plain q) s.tensor).bits) c.as_slice.result.now) c.parts.ensures.value
    ∙ ap (map (λ (s : StagedTensor). (type_of p s.tensor).bits)) lent ∙ sym (widths_are p) in
    let reads : c.as_slice-2.result.now ≡ staged_reads p = c.as_slice-2.ensures ∙ ap (λ (s : Staged). s.reads) c.requires in
    let widths : All IsWidth (staged_widths p) = subst (λ (ws : List ℕ). All IsWidth ws) (sym c.deref.ensures.value ∙ weights) c.in_ok-weights.ensures.widths in
    let net = net_is p c.parts.ensures.valid.sound c.parts.ensures.valid widths in
    subst (λ (ws : List ℕ). IsNet ws c.as_slice-2.result.now) (sym weights) (subst (λ (rs : List Read). IsNet (staged_widths p) rs) (sym reads) net)

pub returns-clause-weights : goal.returns-clause-weights
returns-clause-weights c =
    let p = plain c.args.program.now in
    let lent : c.as_slice.result.now ≡ staged_tensors p = c.as_slice.ensures ∙ ap (λ (s : Staged). s.tensors) c.requires in
    let weights : c.deref.result.now ≡ staged_widths p = c.deref.ensures.value ∙ c.in_ok-weights.ensures.value
    ∙ ap (λ (q : Parts). map (λ (s : StagedTensor). (type_of (plain q) s.tensor).bits) c.as_slice.result.now) c.parts.ensures.value
    ∙ ap (map (λ (s : StagedTensor). (type_of p s.tensor).bits)) lent ∙ sym (widths_are p) in
    IfOk-weaker c.new.result _ _ (λ net e. e ∙ weights) c.new.ensures.weights
