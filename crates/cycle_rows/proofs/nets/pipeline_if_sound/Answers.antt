use Rattle.std.proofs.Common.{ℕ, ℤ, sym, subst}
use Rattle.net_ir.specs.Nets.{Net}
use Rattle.net_cycles.specs.Streams.{HoldStreams}
use Rattle.cycle_rows.proofs.nets.pipeline_if_sound.Goals as goal

pub returns-clause-streams : goal.returns-clause-streams
returns-clause-streams c =
    let p = c.in_ok-pipeline.pipeline in
    subst (λ (n : Net). (stream : ℕ → ℕ → ℤ) → HoldStreams n p.fired p.fifos stream) (sym c.in_ok-pipeline.ensures.network)
    c.in_ok-pipeline.ensures.streams
