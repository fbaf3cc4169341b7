use Rattle.std.proofs.Common.{◌≡◌, ℕ, List, length, false}
use Rattle.cycle_sim.specs.Ending.{AllFired, AreEnding}
use Rattle.cycle_sim.specs.Onward.{Onward}
use Rattle.cycle_sim.specs.Paths.{settings}
use Rattle.cycle_sim.proofs.path.FilePath.end.Given as goal

-- the inputs of the first modules were read to their ends, and no other module moved
abbrev pub invariant-loop-number : goal.invariant-loop-number
invariant-loop-number g l = record {
  long : length l.self.stations.items ≡ length l.initial.self.stations.items;
  going : l.self.stopped ≡ false;
  onward : Onward g.F.Files.tells (settings l.initial.self) (settings l.self) (g.F.Files.given l.initial.files) (g.F.Files.given l.files)
      (g.F.Files.store l.initial.files) (g.F.Files.store l.files) l.initial.self.stations.items l.self.stations.items (g.F.Files.faults l.initial.files)
      (g.F.Files.faults l.files) l.initial.self.stopped l.self.stopped;
  ending : (fired : List ℕ) (finished : ℕ) → AllFired (settings l.initial.self) fired → AreEnding g.F.Files.tells
      (record { value = g.U.Unit.value; place = g.U.Unit.place; step = g.U.Unit.step; count = g.U.Unit.count }) (settings l.initial.self)
      (g.F.Files.given l.initial.files) (g.F.Files.store l.initial.files) l.initial.self.stations.items fired finished 0 → AreEnding g.F.Files.tells
      (record { value = g.U.Unit.value; place = g.U.Unit.place; step = g.U.Unit.step; count = g.U.Unit.count }) (settings l.self) (g.F.Files.given l.files)
      (g.F.Files.store l.files) l.self.stations.items fired finished l.number;
}
