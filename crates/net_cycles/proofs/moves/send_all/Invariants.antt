use Rattle.net_cycles.specs.machine.Moves.{SentTo}
use Rattle.net_cycles.proofs.moves.send_all.Given as goal

abbrev pub invariant-loop-place : goal.invariant-loop-place
invariant-loop-place l = SentTo l.net l.initial.rings l.rings l.values l.«module» l.place
