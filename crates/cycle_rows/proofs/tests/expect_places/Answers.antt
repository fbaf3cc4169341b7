use Rattle.std.proofs.Common.{ℕ, ℤ, Option, subst}
use Rattle.std.specs.Prelude.{IfSome}
use Rattle.net_cycles.specs.Running.{Running}
use Rattle.net_cycles.specs.Streams.{HoldStreams}
use Rattle.cycle_rows.proofs.tests.expect_places.Goals as goal

pub run_to_end-requires-clause-streams : goal.run_to_end-requires-clause-streams
run_to_end-requires-clause-streams g c stream agrees =
    subst (λ (o : Option Running). IfSome o (λ p. (stream : ℕ → ℕ → ℤ) → HoldStreams p.network p.fired p.fifos stream))
    c.in-Some.is c.in_ok-pipeline.ensures.streams stream
