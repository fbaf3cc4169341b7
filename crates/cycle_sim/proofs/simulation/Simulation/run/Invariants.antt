use Rattle.std.proofs.Common.{◌≡◌, ◌-◌, ◌^◌, List, false}
use Rattle.net_cycles.specs.Cycles.{HasRun}
use Rattle.sim_lines.specs.declared.stall.Stall.{Stall}
use Rattle.cycle_sim.specs.Onward.{Onward}
use Rattle.cycle_sim.specs.Paths.{settings}
use Rattle.cycle_sim.specs.Running.{IsRun}
use Rattle.cycle_sim.specs.Stalled.{AreFlagsOf, stalled_until}
use Rattle.cycle_sim.proofs.simulation.Simulation.run.Given as goal

-- so many cycles were done, over the flags of as many
abbrev pub invariant-loop-self : goal.invariant-loop-self
invariant-loop-self g l = record {
  network : l.self.pipeline.network ≡ l.initial.self.pipeline.network;
  firings : l.self.pipeline.firings ≡ l.initial.self.pipeline.firings;
  going : l.self.path.stopped ≡ false;
  flags : l.flags ≡ record l.initial.flags { cycle = l.cycles };
  onward : Onward g.F.Files.tells (settings l.initial.self.path) (settings l.self.path) (g.F.Files.given l.initial.files) (g.F.Files.given l.files)
      (g.F.Files.store l.initial.files) (g.F.Files.store l.files) l.initial.self.path.stations.items l.self.path.stations.items
      (g.F.Files.faults l.initial.files) (g.F.Files.faults l.files) l.initial.self.path.stopped l.self.path.stopped;
  run : IsRun g.F.Files.tells (record { value = g.U.Unit.value; place = g.U.Unit.place; step = g.U.Unit.step; count = g.U.Unit.count })
      (settings l.self.path) (g.F.Files.given l.files) (g.F.Files.store l.files) l.self.path.stations.items l.self.pipeline;
  ran : (stalls : List Stall) → AreFlagsOf (settings l.initial.self.path) stalls l.initial.flags
      → HasRun l.self.pipeline.network l.self.pipeline.firings (stalled_until (settings l.initial.self.path) stalls l.cycles) l.self.pipeline.fired;
}

abbrev pub decreases-loop-self : goal.decreases-loop-self
decreases-loop-self g l = (2 ^ 63) - l.cycles
