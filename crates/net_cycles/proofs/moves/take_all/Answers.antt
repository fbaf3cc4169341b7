use Rattle.std.proofs.Common.{◌≡◌, ◌<◌, ◌∙◌, ℕ, List, length, get_or, ap, sym, subst, arith, rules}
use Rattle.std.proofs.lemmas.Int.{to_z-of_z}
use mir.Syntax.{w128}
use mir.Val.{SFits}
use Rattle.net_ir.specs.declared.network.Queue.{Queue}
use Rattle.net_ir.specs.Nets.{queue_at, entrances}
use Rattle.ring_region.specs.Fifos.{Fifo, fifo_at}
use Rattle.net_cycles.specs.machine.Moves.{entrance, lead_at}
use Rattle.net_cycles.proofs.Steps.{next_entrance, take_step_at}
use Rattle.net_cycles.proofs.moves.take_all.Goals as goal

pub take_one-requires-clause-filled : goal.take_one-requires-clause-filled
take_one-requires-clause-filled c lead =
    let net = c.args.net.now in
    let j = c.loop-place.place in
    let x : ℕ = get_or c.entrances-ports.result.now j 0 in
    let h : j < length (entrances net c.args.module) = omega (arith, ap length c.entrances-ports.ensures.value) in
    let is : x ≡ entrance net c.args.module j = ap (λ (xs : List ℕ). get_or xs j 0) c.entrances-ports.ensures.value in
    let leads : (queue_at c.queues-queues.result.now x).lead ≡ lead_at net c.args.module j =
    ap (λ (qs : List Queue). (queue_at qs x).lead) c.queues-queues.ensures.value ∙ ap (λ y. (queue_at net.queues y).lead) is in
    let same = next_entrance net c.args.module j c.args.rings.now c.loop-place.rings c.loop-place.values c.args.firing h
    c.loop-place.invariant in
    subst (λ y. 0 < length (fifo_at c.loop-place.rings y).items) (sym is)
    (subst (λ (f : Fifo). 0 < length f.items) (sym same) (c.requires.filled j h (omega arith)))

pub loop-place-preserved : goal.loop-place-preserved
loop-place-preserved c =
    let net = c.args.net.now in
    let j = c.loop-place.place in
    let x : ℕ = get_or c.entrances-ports.result.now j 0 in
    let h : j < length (entrances net c.args.module) = omega (arith, ap length c.entrances-ports.ensures.value) in
    let is : x ≡ entrance net c.args.module j = ap (λ (xs : List ℕ). get_or xs j 0) c.entrances-ports.ensures.value in
    let leads : (queue_at c.queues-queues.result.now x).lead ≡ lead_at net c.args.module j =
    ap (λ (qs : List Queue). (queue_at qs x).lead) c.queues-queues.ensures.value ∙ ap (λ y. (queue_at net.queues y).lead) is in
    let known : x < length net.queues = subst (λ y. y < length net.queues) (sym is) (c.entrances-ports.ensures.known j 0 h) in
    let fits : SFits w128 c.take_one.result = search rules in
    take_step_at net c.args.module j c.args.rings.now c.loop-place.rings c.take_one.new.rings c.loop-place.values _ c.args.firing
    x _ is leads h (omega (arith, c.loop-place.auto.values, c.requires.places))
    (omega (arith, known, c.loop-place.invariant.count, c.requires.count)) c.loop-place.invariant
    (to_z-of_z w128 c.take_one.result fits ∙ c.take_one.ensures.value) c.take_one.ensures.queue
