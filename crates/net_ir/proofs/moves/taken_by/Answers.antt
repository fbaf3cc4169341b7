use Rattle.std.proofs.Common.{true, false, arith}
use Rattle.net_ir.proofs.Scans.{taken_with}
use Rattle.net_ir.proofs.moves.taken_by.Goals as goal

pub overflow_add-result : goal.overflow_add-result
overflow_add-result c =
    omega (arith, taken_with c.args.net.now c.args.number c.args.turn c.queue_of-queue.result true c.queue_of-queue.ensures.value c.if-has_taken.ensures)

pub returns-then-has_taken : goal.returns-then-has_taken
returns-then-has_taken c =
    omega (arith, taken_with c.args.net.now c.args.number c.args.turn c.queue_of-queue.result true c.queue_of-queue.ensures.value c.if-has_taken.ensures)

pub returns-else-has_taken : goal.returns-else-has_taken
returns-else-has_taken c =
    omega (arith, taken_with c.args.net.now c.args.number c.args.turn c.queue_of-queue.result false c.queue_of-queue.ensures.value c.if-has_taken.ensures)
