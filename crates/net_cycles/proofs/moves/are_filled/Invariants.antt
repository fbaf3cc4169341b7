use Rattle.net_cycles.specs.machine.Moves.{FilledTo}
use Rattle.net_cycles.proofs.moves.are_filled.Given as goal

abbrev pub invariant-loop-queue : goal.invariant-loop-queue
invariant-loop-queue l = FilledTo l.net l.rings l.«module» l.firing l.queue-index
