use Rattle.std.proofs.Common.{◌≡◌, get_or, drop}
use Rattle.net_ir.specs.declared.events.Event.TheVariants.{Close}
use Rattle.net_ir.proofs.Effects.{event_list}
use Rattle.net_ir.proofs.Scans.{ready}
use Rattle.net_ir.proofs.moves.next_event.Given as goal

abbrev pub invariant-loop-queue : goal.invariant-loop-queue
invariant-loop-queue l =
    get_or (event_list (ready l.net.queues l.turn.fired l.ports) l.sends) l.turn.part Close
    ≡ get_or (event_list (ready l.net.queues l.turn.fired (drop l.queue-index l.ports)) l.sends) l.left Close
