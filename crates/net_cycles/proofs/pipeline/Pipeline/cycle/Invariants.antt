use Rattle.std.proofs.Common.{◌≡◌, ◌≤◌, ℕ, ℤ, List}
use Rattle.net_ir.specs.CycleRun.{met, fired_among, held_among}
use Rattle.net_cycles.specs.Between.{between}
use Rattle.net_cycles.specs.Streams.{HoldStreams}
use Rattle.net_cycles.specs.Running.{IsRunning}
use Rattle.net_cycles.proofs.pipeline.Pipeline.cycle.Given as goal

abbrev pub invariant-loop-module : goal.invariant-loop-module
invariant-loop-module g l = record {
  network : l.self.network ≡ l.initial.self.network;
  firings : l.self.firings ≡ l.initial.self.firings;
  running : IsRunning l.self;
  state : between l.self.fired
      ≡ met l.initial.self.network l.initial.self.firings l.stalled (between l.initial.self.fired) l.«module»;
  fired : l.count.fired
      ≡ fired_among l.initial.self.network l.initial.self.firings l.stalled (between l.initial.self.fired) l.«module»;
  held : l.count.held
      ≡ held_among l.initial.self.network l.initial.self.firings l.stalled (between l.initial.self.fired) l.«module»;
  few_fired : l.count.fired ≤ l.«module»;
  few_held : l.count.held ≤ l.«module»;
  streams : (stream : ℕ → ℕ → ℤ) → g.D.Datapath.agrees l.datapath l.env l.self.network stream
      → HoldStreams l.self.network l.self.fired l.self.fifos stream;
  agrees : (stream : ℕ → ℕ → ℤ) → g.D.Datapath.agrees l.datapath l.env l.initial.self.network stream
      → g.D.Datapath.agrees l.initial.datapath l.initial.env l.initial.self.network stream;
  ready : g.D.Datapath.ready l.datapath l.env l.self.network l.self.fired;
  relies : (later : List ℕ) (m : ℕ) → g.D.Datapath.relies l.initial.datapath l.initial.self.network later m
      → g.D.Datapath.relies l.datapath l.initial.self.network later m;
  onward : g.D.Datapath.onward l.initial.datapath l.initial.env l.datapath l.env;
}
