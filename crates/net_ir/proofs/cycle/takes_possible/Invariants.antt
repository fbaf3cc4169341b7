use Rattle.std.proofs.Common.{◌≡◌, drop}
use Rattle.std.specs.List.{list_all}
use Rattle.net_ir.specs.declared.events.Event.TheVariants.{Take}
use Rattle.net_ir.specs.States.{is_possible}
use Rattle.net_ir.proofs.Scans.{ready}
use Rattle.net_ir.proofs.cycle.takes_possible.Given as goal

abbrev pub invariant-loop-queue : goal.invariant-loop-queue
invariant-loop-queue l =
    list_all (λ n. is_possible l.net l.counts.state (Take n)) (ready l.net.queues l.firing l.ports)
    ≡ list_all (λ n. is_possible l.net l.counts.state (Take n)) (ready l.net.queues l.firing (drop l.queue-index l.ports))
