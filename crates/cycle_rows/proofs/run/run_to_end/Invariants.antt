use Rattle.std.proofs.Common.{◌-◌, ◌≡◌, ◌≤◌, ℕ, ℤ, Bool, List, length}
use Rattle.net_cycles.specs.Cycles.{HasRun}
use Rattle.net_cycles.specs.Streams.{HoldStreams}
use Rattle.cycle_rows.specs.Relayed.{AgreesWith, IsReady}
use Rattle.cycle_rows.proofs.run.run_to_end.Given as goal

abbrev pub invariant-loop-cycles : goal.invariant-loop-cycles
invariant-loop-cycles g l = record {
  network : l.pipeline.network ≡ l.initial.pipeline.network;
  firings : l.pipeline.firings ≡ l.initial.pipeline.firings;
  few : l.cycles ≤ l.most;
  run : (stalls : List (List Bool)) × (length stalls ≡ l.cycles) × HasRun l.pipeline.network l.pipeline.firings stalls l.pipeline.fired;
  streams : (stream : ℕ → ℕ → ℤ) → AgreesWith l.pipeline.network l.relay.source l.relay.read.items stream
      → HoldStreams l.pipeline.network l.pipeline.fired l.pipeline.fifos stream;
  ready : IsReady l.pipeline.network l.relay.source l.relay.sink l.relay.read.items l.relay.given.items l.pipeline.fired;
}

abbrev pub decreases-loop-cycles : goal.decreases-loop-cycles
decreases-loop-cycles g l = l.most - l.cycles
