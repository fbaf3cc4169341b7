use Rattle.net_ir.specs.machine.Table.{IsListed}
use Rattle.net_ir.proofs.network.ends_of.Given as goal

abbrev pub invariant-loop-number : goal.invariant-loop-number
invariant-loop-number l = IsListed l.queues l.modules l.number l.ends.items
