use Rattle.std.proofs.Common.{◌≡◌, ◌≤◌, ◌+◌, length, drop}
use Rattle.net_ir.proofs.Scans.{ready}
use Rattle.net_ir.proofs.moves.take_count.Given as goal

abbrev pub invariant-loop-queue : goal.invariant-loop-queue
invariant-loop-queue l =
    (l.count ≤ l.queue-index) × (length (ready l.net.queues l.firing l.ports) ≡ l.count + length (ready l.net.queues l.firing (drop l.queue-index l.ports)))
