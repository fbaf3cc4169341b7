use Rattle.std.proofs.Common.{ap, length, ℕ, arith}
use Rattle.net_ir.proofs.Scans.{takes_is, ready_end}
use Rattle.net_ir.proofs.moves.take_count.Goals as goal

pub returns : goal.returns
returns c =
    let ports = c.entrances-ports.result.now in
    let end = ap (length {A = ℕ}) (ready_end c.args.net.now.queues c.args.firing ports c.loop-queue.queue-index c.loop-queue-test.false) in
    omega (arith, takes_is c.args.net.now c.args.module c.args.firing ports c.entrances-ports.ensures.value, c.loop-queue.invariant.1, end)
