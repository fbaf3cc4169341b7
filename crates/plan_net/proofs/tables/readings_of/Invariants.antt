use Rattle.plan_net.specs.machine.Tables.{AreReads}
use Rattle.plan_net.proofs.tables.readings_of.Given as goal

abbrev pub invariant-loop-number : goal.invariant-loop-number
invariant-loop-number l = AreReads l.layout l.number l.readings.items
