use Rattle.std.proofs.Common.{◌≡◌, ◌<◌, ℕ}
use Rattle.net_ir.specs.Firings.{firings_at}
use Rattle.net_ir.specs.States.{turn_at}
use Rattle.net_ir.proofs.counts.all_done.Given as goal

abbrev pub invariant-loop-module : goal.invariant-loop-module
invariant-loop-module l =
    (m : ℕ) → m < l.module → (turn_at l.counts.state m).fired ≡ firings_at l.net l.counts.firings m
