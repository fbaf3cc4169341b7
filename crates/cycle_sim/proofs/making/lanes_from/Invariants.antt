use Rattle.std.proofs.Common.{◌≡◌, map, take}
use Rattle.staged_cells.specs.Streams.{lane_of, receiver}
use Rattle.cycle_sim.proofs.making.lanes_from.Given as goal

-- the lanes of the queues so far
abbrev pub invariant-loop-queue : goal.invariant-loop-queue
invariant-loop-queue l =
    (l.lanes.items ≡ map (λ queue. lane_of (receiver l.network queue)) (take l.queue-index l.exits))
