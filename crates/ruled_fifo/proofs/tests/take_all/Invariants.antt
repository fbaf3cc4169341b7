use Rattle.ruled_fifo.specs.Ends.{TakesFromSame}
use Rattle.ruled_fifo.proofs.tests.take_all.Given as goal

abbrev pub invariant-loop : goal.invariant-loop
invariant-loop g l = TakesFromSame l.fn.take l.take
