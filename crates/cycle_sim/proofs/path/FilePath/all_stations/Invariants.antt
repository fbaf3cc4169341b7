use Rattle.cycle_sim.specs.Paths.{settings}
use Rattle.cycle_sim.proofs.NewStations.{AreNewBelow}
use Rattle.cycle_sim.proofs.path.FilePath.all_stations.Given as goal

-- what those so far work with
abbrev pub invariant-loop-number : goal.invariant-loop-number
invariant-loop-number g l =
    AreNewBelow (record { value = g.U.Unit.value; place = g.U.Unit.place; step = g.U.Unit.step; count = g.U.Unit.count }) (settings l.self)
    l.inputs l.outputs l.network l.stations.items l.number
