use Rattle.std.proofs.Common.{◌≡◌, List, ℕ, map, ap, ◌∙◌, subst}
use Rattle.delay_net.specs.Shape.{IsNet}
use Rattle.delay_net.specs.Windows.{age, at_least_0}
use Rattle.delay_net.specs.declared.net.Read.{Read}
use Rattle.soda_ir.specs.declared.program.Parts.{Parts}
use Rattle.soda_ir.specs.Program.{plain}
use Rattle.time_stages.specs.declared.staging.Staged.{Staged}
use Rattle.time_stages.specs.Staged.{staged_reads, staged_tensors, staged_widths}
use Rattle.net_build.specs.Planned.{kind_of}
use Rattle.net_build.proofs.Limited.{layout_from}
use Rattle.net_build.proofs.layouts.layout_of.Goals as goal

pub new-requires : goal.new-requires
new-requires c =
    let p = plain c.args.program.now in
    let delays = c.args.delays.now in
    let lent : c.as_slice.result.now ≡ staged_tensors p = c.as_slice.ensures ∙ ap (λ (s : Staged). s.tensors) c.requires.staging in
    let kinds : c.in_ok-kinds.kinds.items ≡ map (kind_of p) (staged_tensors p) =
    c.in_ok-kinds.ensures ∙ ap (λ (q : Parts). map (kind_of (plain q)) c.as_slice.result.now) c.parts-parts.ensures.value
    ∙ ap (map (kind_of p)) lent in
    let net : IsNet (staged_widths p) (staged_reads p) = subst (λ (ws : List ℕ). IsNet ws (staged_reads p)) c.requires.weights
    (subst (λ (rs : List Read). IsNet c.args.net.now.weights rs) c.requires.reads c.reads.ensures.net) in
    layout_from p delays c.parts-parts.result.now.unroll c.in_ok-kinds.kinds.items c.in_ok-reads.reads.items
    c.in_ok-delays.delays.items c.in_ok-ages.ages.items
    (ap (λ (q : Parts). q.unroll) c.parts-parts.ensures.value) kinds
    (c.in_ok-reads.ensures.items ∙ c.reads.ensures.value ∙ c.requires.reads) c.in_ok-delays.ensures.items
    (c.in_ok-ages.ensures ∙ ap (map (λ read. at_least_0 (age delays read))) c.requires.reads) c.parts-parts.ensures.valid.sound net c.requires.kept
