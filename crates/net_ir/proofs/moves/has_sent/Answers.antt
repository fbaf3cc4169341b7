use Rattle.std.proofs.Common.{◌∙◌}
use Rattle.net_ir.proofs.Scans.{sent_is, none_sent, none_left, found_here, passed_here, none_further}
use Rattle.net_ir.proofs.moves.has_sent.Goals as goal

pub returns-then-turn-eq0 : goal.returns-then-turn-eq0
returns-then-turn-eq0 c = none_sent c.args.net.now c.args.module c.args.turn c.args.queue c.if-turn-eq0.true

pub returns-then-left-eq0 : goal.returns-then-left-eq0
returns-then-left-eq0 c =
    sent_is c.args.net.now c.args.module c.args.turn c.args.queue c.exits-sends.result.now c.saturating_sub-left.result c.take_count.result _ c.exits-sends.ensures.value c.take_count.ensures c.saturating_sub-left.ensures
    (c.loop-other.invariant ∙ none_left c.args.queue c.exits-sends.result.now c.loop-other.other-index c.loop-other.left c.if-left-eq0.true)

pub returns-then-other-queue : goal.returns-then-other-queue
returns-then-other-queue c =
    sent_is c.args.net.now c.args.module c.args.turn c.args.queue c.exits-sends.result.now c.saturating_sub-left.result c.take_count.result _ c.exits-sends.ensures.value c.take_count.ensures c.saturating_sub-left.ensures
    (c.loop-other.invariant
    ∙ found_here c.args.queue c.exits-sends.result.now c.loop-other.other-index c.loop-other.left c.loop-other-test.true c.if-left-eq0.false c.if-other-queue.true)

pub loop-other-preserved : goal.loop-other-preserved
loop-other-preserved c =
    c.loop-other.invariant
    ∙ passed_here c.args.queue c.exits-sends.result.now c.loop-other.other-index c.loop-other.left c.loop-other-test.true c.if-left-eq0.false c.if-other-queue.false

pub returns : goal.returns
returns c =
    sent_is c.args.net.now c.args.module c.args.turn c.args.queue c.exits-sends.result.now c.saturating_sub-left.result c.take_count.result _ c.exits-sends.ensures.value c.take_count.ensures c.saturating_sub-left.ensures
    (c.loop-other.invariant ∙ none_further c.args.queue c.exits-sends.result.now c.loop-other.other-index c.loop-other.left c.loop-other-test.false)
