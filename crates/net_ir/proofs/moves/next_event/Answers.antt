use Rattle.std.proofs.Common.{◌<◌, ◌≤◌, ◌∙◌, ◌+◌, sym, subst, ap, get_or, drop}
use Rattle.net_ir.specs.declared.network.Queue.{Queue}
use Rattle.net_ir.specs.declared.events.Event.TheVariants.{Send, Close}
use Rattle.net_ir.proofs.Effects.{event_list}
use Rattle.net_ir.proofs.Facts.{part_fits}
use Rattle.net_ir.proofs.Scans.{ready, next_is, take_found, take_passed, port_passed, send_found, close_found}
use Rattle.net_ir.proofs.moves.next_event.Goals as goal
use Rattle.net_ir.proofs.moves.next_event.Goals.{then-queue_of-turn+else-left-eq0, else-queue_of-turn}

pub returns-then-left-eq0-clause-value : goal.returns-then-left-eq0-clause-value
returns-then-left-eq0-clause-value c =
    let lead = subst (λ (q : Queue). q.lead ≤ c.args.turn.fired) c.queue_of.ensures.value c.if-queue_of-turn.true in
    next_is c.args.net.now c.args.module c.args.turn c.entrances-ports.result.now c.exits-sends.result.now _ c.entrances-ports.ensures.value c.exits-sends.ensures.value
    (c.loop-queue.invariant
    ∙ take_found c.args.net.now.queues c.args.turn.fired c.entrances-ports.result.now c.exits-sends.result.now c.loop-queue.queue-index c.loop-queue.left c.loop-queue-test.true lead c.if-left-eq0.true)

pub loop-queue-preserved : goal.loop-queue-preserved
loop-queue-preserved c =
    let queues = c.args.net.now.queues in
    let k = c.args.turn.fired in
    let ports = c.entrances-ports.result.now in
    let sends = c.exits-sends.result.now in
    elim c.if-queue_of-turn.branch [
      | then-queue_of-turn+else-left-eq0 w ↦ c.loop-queue.invariant
          ∙ take_passed queues k ports sends c.loop-queue.queue-index c.loop-queue.left c.loop-queue-test.true
          (subst (λ (q : Queue). q.lead ≤ k) c.queue_of.ensures.value w.if-queue_of-turn.true) w.if-left-eq0.false
          ∙ ap (λ j. get_or (event_list (ready queues k (drop (c.loop-queue.queue-index + 1) ports)) sends) j Close) (sym w.left-is)
      | else-queue_of-turn w ↦ c.loop-queue.invariant ∙ port_passed queues k ports sends c.loop-queue.queue-index c.loop-queue.left c.loop-queue-test.true
          (subst (λ (q : Queue). k < q.lead) c.queue_of.ensures.value w.if-queue_of-turn.false)
          ∙ ap (λ j. get_or (event_list (ready queues k (drop (c.loop-queue.queue-index + 1) ports)) sends) j Close) (sym w.left-is)
    ]

pub returns-in-Some-clause-value : goal.returns-in-Some-clause-value
returns-in-Some-clause-value c =
    let found = c.in-Some.ensures.lookup.3 in
    next_is c.args.net.now c.args.module c.args.turn c.entrances-ports.result.now c.exits-sends.result.now _ c.entrances-ports.ensures.value c.exits-sends.ensures.value
    (c.loop-queue.invariant
    ∙ send_found c.args.net.now.queues c.args.turn.fired c.entrances-ports.result.now c.exits-sends.result.now c.loop-queue.queue-index c.loop-queue.left c.loop-queue-test.false found.0 ∙ ap Send (sym (found.1 0)))

pub returns-in-None-clause-value : goal.returns-in-None-clause-value
returns-in-None-clause-value c =
    next_is c.args.net.now c.args.module c.args.turn c.entrances-ports.result.now c.exits-sends.result.now _ c.entrances-ports.ensures.value c.exits-sends.ensures.value
    (c.loop-queue.invariant
    ∙ close_found c.args.net.now.queues c.args.turn.fired c.entrances-ports.result.now c.exits-sends.result.now c.loop-queue.queue-index c.loop-queue.left c.loop-queue-test.false c.in-None.ensures.lookup.3)

pub returns-then-left-eq0-clause-fits : goal.returns-then-left-eq0-clause-fits
returns-then-left-eq0-clause-fits c =
    λ ne. part_fits c.args.net.now c.args.module c.args.turn c.entrances-ports.ensures.few c.entrances-ports.ensures.small
    (λ e. ne (returns-then-left-eq0-clause-value c ∙ e))

pub returns-in-Some-clause-fits : goal.returns-in-Some-clause-fits
returns-in-Some-clause-fits c =
    λ ne. part_fits c.args.net.now c.args.module c.args.turn c.entrances-ports.ensures.few c.entrances-ports.ensures.small
    (λ e. ne (returns-in-Some-clause-value c ∙ e))
