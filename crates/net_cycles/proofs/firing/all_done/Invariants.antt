use Rattle.std.proofs.Common.{◌≡◌, ◌<◌, ℕ, get_or}
use Rattle.net_ir.specs.Firings.{firings_at}
use Rattle.net_cycles.proofs.firing.all_done.Given as goal

abbrev pub invariant-loop-module : goal.invariant-loop-module
invariant-loop-module l = (m : ℕ) → m < l.«module» → get_or l.fired m 0 ≡ firings_at l.net l.firings m
