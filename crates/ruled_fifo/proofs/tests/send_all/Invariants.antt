use Rattle.ruled_fifo.specs.Ends.{SendsToSame}
use Rattle.ruled_fifo.proofs.tests.send_all.Given as goal

abbrev pub invariant-loop : goal.invariant-loop
invariant-loop g l = SendsToSame l.fn.send l.send
