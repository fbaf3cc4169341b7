use Rattle.net_cycles.specs.machine.Moves.{RoomyTo}
use Rattle.net_cycles.proofs.moves.are_roomy.Given as goal

abbrev pub invariant-loop-queue : goal.invariant-loop-queue
invariant-loop-queue l = RoomyTo l.net l.rings l.«module» l.queue-index
