use Rattle.std.proofs.Common.{◌≡◌, drop}
use Rattle.std.specs.List.{list_all}
use Rattle.net_ir.specs.declared.events.Event.TheVariants.{Send}
use Rattle.net_ir.specs.States.{is_possible}
use Rattle.net_ir.proofs.cycle.sends_possible.Given as goal

abbrev pub invariant-loop-queue : goal.invariant-loop-queue
invariant-loop-queue l =
    list_all (λ n. is_possible l.net l.counts.state (Send n)) l.sends ≡ list_all (λ n. is_possible l.net l.counts.state (Send n)) (drop l.queue-index l.sends)
