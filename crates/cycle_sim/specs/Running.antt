-- A network of a program that runs over files.
use Rattle.std.specs.Prelude.{◌≡◌, ℕ, ◌≤◌, List, ℤ}
use Rattle.soda_io.specs.Store.{Store}
use Rattle.net_build.specs.Limits.{greatest_delay, most_delay}
use Rattle.net_build.specs.Planned.{firings_for}
use Rattle.net_cycles.specs.Running.{Running}
use Rattle.net_cycles.specs.Streams.{HoldStreams}
use Rattle.cycle_sim.specs.Settings.{Settings, array_cells, net_in, plan_in}
use Rattle.cycle_sim.specs.Stations.{AgreesWith, AreReady, Units}
use Rattle.cycle_sim.specs.declared.stations.Station.{Station}

-- Its modules have done their firings, as many as the cells and the delays want are to be done, and its queues hold the
-- cells of their streams from the takes to the sends, over all inputs that go on from what was read.
pub record IsRun {U : Type 0} (tells : Type 0) (units : Units U) (c : Settings) (given : ℕ) (store : Store)
    (stations : List (Station U)) (r : Running) : Type 0 where
  pub network : r.network ≡ net_in c
  pub firings : r.firings ≡ firings_for (array_cells c) (plan_in c)
  pub delays : greatest_delay (plan_in c) ≤ most_delay
  pub ready : AreReady tells units c given store stations r.fired
  pub holds : (stream : ℕ → ℕ → ℤ) → AgreesWith tells c store stations stream
      → HoldStreams r.network r.fired r.fifos stream
