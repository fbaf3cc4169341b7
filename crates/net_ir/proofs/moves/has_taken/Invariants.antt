use Rattle.std.proofs.Common.{◌≡◌, nat_eq, take, drop}
use Rattle.std.specs.List.{list_any}
use Rattle.net_ir.proofs.Scans.{ready}
use Rattle.net_ir.proofs.moves.has_taken.Given as goal

abbrev pub invariant-loop-other : goal.invariant-loop-other
invariant-loop-other l =
    list_any (nat_eq l.queue) (take l.turn.part (ready l.net.queues l.turn.fired l.ports))
    ≡ list_any (nat_eq l.queue) (take l.left (ready l.net.queues l.turn.fired (drop l.other-index l.ports)))
