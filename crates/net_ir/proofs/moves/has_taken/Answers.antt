use Rattle.std.proofs.Common.{◌<◌, ◌≤◌, ◌+◌, ◌∙◌, nat_eq, sym, subst, ap, take, drop}
use Rattle.std.specs.List.{list_any}
use Rattle.net_ir.specs.declared.network.Queue.{Queue}
use Rattle.net_ir.proofs.Scans.{ready, taken_is, none_taken, ready_none_left, ready_found, ready_passed, unready_passed, ready_none_further}
use Rattle.net_ir.proofs.moves.has_taken.Goals as goal
use Rattle.net_ir.proofs.moves.has_taken.Goals.{then-queue_of-turn+else-left-eq0+else-other-queue, else-queue_of-turn}

pub returns-then-turn-eq0 : goal.returns-then-turn-eq0
returns-then-turn-eq0 c = none_taken c.args.net.now c.args.module c.args.turn c.args.queue c.if-turn-eq0.true

pub returns-then-left-eq0 : goal.returns-then-left-eq0
returns-then-left-eq0 c =
    taken_is c.args.net.now c.args.module c.args.turn c.args.queue c.entrances-ports.result.now _ c.entrances-ports.ensures.value
    (c.loop-other.invariant
    ∙ ready_none_left c.args.net.now.queues c.args.turn.fired c.args.queue c.entrances-ports.result.now c.loop-other.other-index c.loop-other.left c.if-left-eq0.true)

pub returns-then-other-queue : goal.returns-then-other-queue
returns-then-other-queue c =
    let lead = subst (λ (q : Queue). q.lead ≤ c.args.turn.fired) c.queue_of.ensures.value c.if-queue_of-turn.true in
    taken_is c.args.net.now c.args.module c.args.turn c.args.queue c.entrances-ports.result.now _ c.entrances-ports.ensures.value
    (c.loop-other.invariant
    ∙ ready_found c.args.net.now.queues c.args.turn.fired c.args.queue c.entrances-ports.result.now c.loop-other.other-index c.loop-other.left c.loop-other-test.true lead c.if-left-eq0.false c.if-other-queue.true)

pub loop-other-preserved : goal.loop-other-preserved
loop-other-preserved c =
    let queues = c.args.net.now.queues in
    let k = c.args.turn.fired in
    let ports = c.entrances-ports.result.now in
    let i = c.loop-other.other-index in
    elim c.if-queue_of-turn.branch [
      | then-queue_of-turn+else-left-eq0+else-other-queue w ↦ c.loop-other.invariant
          ∙ ready_passed queues k c.args.queue ports i c.loop-other.left c.loop-other-test.true
          (subst (λ (q : Queue). q.lead ≤ k) c.queue_of.ensures.value w.if-queue_of-turn.true) w.if-left-eq0.false w.if-other-queue.false
          ∙ ap (λ j. list_any (nat_eq c.args.queue) (take j (ready queues k (drop (i + 1) ports)))) (sym w.left-is)
      | else-queue_of-turn w ↦ c.loop-other.invariant ∙ unready_passed queues k c.args.queue ports i c.loop-other.left c.loop-other-test.true
          (subst (λ (q : Queue). k < q.lead) c.queue_of.ensures.value w.if-queue_of-turn.false)
          ∙ ap (λ j. list_any (nat_eq c.args.queue) (take j (ready queues k (drop (i + 1) ports)))) (sym w.left-is)
    ]

pub returns : goal.returns
returns c =
    taken_is c.args.net.now c.args.module c.args.turn c.args.queue c.entrances-ports.result.now _ c.entrances-ports.ensures.value
    (c.loop-other.invariant
    ∙ ready_none_further c.args.net.now.queues c.args.turn.fired c.args.queue c.entrances-ports.result.now c.loop-other.other-index c.loop-other.left c.loop-other-test.false)
