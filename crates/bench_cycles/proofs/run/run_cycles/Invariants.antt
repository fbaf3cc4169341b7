use Rattle.std.proofs.Common.{◌≡◌, ℕ, ℤ}
use Rattle.net_cycles.specs.Streams.{HoldStreams}
use Rattle.bench_cycles.specs.Blurred.{IsLaw}
use Rattle.bench_cycles.proofs.run.run_cycles.Given as goal

abbrev pub invariant-loop-cycle : goal.invariant-loop-cycle
invariant-loop-cycle l = record {
  network : l.pipeline.network ≡ l.initial.pipeline.network;
  streams : (stream : ℕ → ℕ → ℤ) → IsLaw l.pipeline.network stream
      → HoldStreams l.pipeline.network l.pipeline.fired l.pipeline.fifos stream;
}
