use Rattle.net_cycles.specs.machine.Moves.{TakenTo}
use Rattle.net_cycles.proofs.moves.take_all.Given as goal

abbrev pub invariant-loop-place : goal.invariant-loop-place
invariant-loop-place l = TakenTo l.net l.initial.rings l.rings l.values l.«module» l.firing l.place
