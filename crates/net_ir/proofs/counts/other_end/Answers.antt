use Rattle.std.proofs.Common.{◌∙◌, ap, sym, Some, arith}
use Rattle.net_ir.specs.declared.network.Queue.{Queue}
use Rattle.net_ir.specs.States.{other_end}
use Rattle.net_ir.proofs.Facts.{waits_gone, waits_able, waits_end}
use Rattle.net_ir.proofs.counts.other_end.Goals as goal
use Rattle.net_ir.proofs.counts.other_end.Goals.{then-not-can-via-then-not-can, then-not-can-via-else-not-can+then-is_possible}

pub returns-then-not-can-clause-value : goal.returns-then-not-can-clause-value
returns-then-not-can-clause-value c =
    elim c.then-not-can.branch [
      | then-not-can-via-then-not-can w ↦ waits_gone c.args.net.now c.args.counts.now.firings c.args.counts.now.state c.args.module c.turn-turn.result c.turn-turn.ensures.value (omega (arith, w.if-not-can.true, c.firings_of.ensures.value))
      | then-not-can-via-else-not-can+then-is_possible w ↦ waits_able c.args.net.now c.args.counts.now.firings c.args.counts.now.state c.args.module c.turn-turn.result c.next_event-event.result w.is_possible.result c.turn-turn.ensures.value c.next_event-event.ensures.value w.is_possible.ensures w.if-is_possible.true
    ]

pub returns-in-Take-clause-value : goal.returns-in-Take-clause-value
returns-in-Take-clause-value c =
    waits_end c.args.net.now c.args.counts.now.firings c.args.counts.now.state c.args.module c.turn-turn.result c.next_event-event.result c.is_possible.result _ c.turn-turn.ensures.value c.next_event-event.ensures.value (omega (arith, c.if-not-can.false, c.firings_of.ensures.value)) c.is_possible.ensures c.if-is_possible.false
    (ap (λ (q : Queue). Some q.from) c.queue_of.ensures.value ∙ ap (other_end c.args.net.now) (sym c.in-Take.is))

pub returns-in-Send-clause-value : goal.returns-in-Send-clause-value
returns-in-Send-clause-value c =
    waits_end c.args.net.now c.args.counts.now.firings c.args.counts.now.state c.args.module c.turn-turn.result c.next_event-event.result c.is_possible.result _ c.turn-turn.ensures.value c.next_event-event.ensures.value (omega (arith, c.if-not-can.false, c.firings_of.ensures.value)) c.is_possible.ensures c.if-is_possible.false
    (ap (λ (q : Queue). Some q.to) c.queue_of-in-Send.ensures.value ∙ ap (other_end c.args.net.now) (sym c.in-Send.is))

pub returns-in-Close-clause-value : goal.returns-in-Close-clause-value
returns-in-Close-clause-value c =
    waits_end c.args.net.now c.args.counts.now.firings c.args.counts.now.state c.args.module c.turn-turn.result c.next_event-event.result c.is_possible.result _ c.turn-turn.ensures.value c.next_event-event.ensures.value (omega (arith, c.if-not-can.false, c.firings_of.ensures.value)) c.is_possible.ensures c.if-is_possible.false
    (ap (other_end c.args.net.now) (sym c.in-Close.is))
