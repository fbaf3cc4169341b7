use Rattle.std.proofs.Common.{ℕ, List, ◌≡◌, get_or, refl, ◌∙◌, subst, pos}
use Rattle.std.specs.List.{All}
use Rattle.std.proofs.lemmas.List.{take_all}
use Rattle.std.proofs.lemmas.List.Elements.{All-more}
use Rattle.delay_net.specs.declared.net.Read.{Read}
use Rattle.delay_net.proofs.Filled.{filled_from_reads}
use Rattle.delay_net.proofs.certificate.fills_widths.Goals as goal

pub loop-read-preserved : goal.loop-read-preserved
loop-read-preserved c =
    All-more (λ read. get_or c.sums-held.result read.of 0 ≡ get_or c.weights-weights.result.now read.of 0) c.reads-read-items.result.now c.loop-read.read-index
    (record { reader = 0; of = 0; offset = pos 0 }) c.loop-read-test.true c.loop-read.invariant c.if-held-of.false

pub returns : goal.returns
returns c =
    let held = c.sums-held.result in
    let weights = c.args.net.now.weights in
    let reads = c.args.net.now.reads in
    let seen : All (λ read. get_or held read.of 0 ≡ get_or c.weights-weights.result.now read.of 0) reads =
    subst (All (λ read. get_or held read.of 0 ≡ get_or c.weights-weights.result.now read.of 0))
    (take_all c.loop-read.read-index _ c.loop-read-test.false ∙ c.reads-read-items.ensures.value) c.loop-read.invariant in
    let all : All (λ read. get_or held read.of 0 ≡ get_or weights read.of 0) reads =
    subst (λ (ws : List ℕ). All (λ (read : Read). get_or held read.of 0 ≡ get_or ws read.of 0) reads) c.weights-weights.ensures.value seen in
    (λ _. filled_from_reads held weights reads c.args.hold.now c.weights-weights.ensures.net.few_tensors c.sums-held.ensures.sums all, λ _. refl)
