use Rattle.soda_run.proofs.Exchanged.{IsExchanged}
use Rattle.soda_run.proofs.exchange.exchange.Given as goal

abbrev pub invariant-loop-number : goal.invariant-loop-number
invariant-loop-number l = IsExchanged l.outputs l.initial.arrays l.number l.arrays
