use Rattle.std.proofs.Common.{true, false, arith}
use Rattle.net_ir.proofs.Scans.{sent_with}
use Rattle.net_ir.proofs.moves.sent_by.Goals as goal

pub overflow_add-result : goal.overflow_add-result
overflow_add-result c =
    omega (arith, sent_with c.args.net.now c.args.number c.args.turn c.queue_of-queue.result true c.queue_of-queue.ensures.value c.if-has_sent.ensures)

pub returns-then-has_sent : goal.returns-then-has_sent
returns-then-has_sent c =
    omega (arith, sent_with c.args.net.now c.args.number c.args.turn c.queue_of-queue.result true c.queue_of-queue.ensures.value c.if-has_sent.ensures)

pub returns-else-has_sent : goal.returns-else-has_sent
returns-else-has_sent c =
    omega (arith, sent_with c.args.net.now c.args.number c.args.turn c.queue_of-queue.result false c.queue_of-queue.ensures.value c.if-has_sent.ensures)
