use Rattle.soda_run.proofs.Exchanged.{IsTaken}
use Rattle.soda_run.proofs.exchange.take_all.Given as goal

abbrev pub invariant-loop-number : goal.invariant-loop-number
invariant-loop-number l = IsTaken l.numbers l.fn.arrays.items l.number-index l.taken.items l.arrays.items
