use Rattle.std.proofs.Common.{◌≡◌, ◌<◌, ℕ, pos, get_or}
use Rattle.bench_cycles.specs.Blurred.{cell_at}
use Rattle.bench_cycles.proofs.blur.send_cells.Given as goal

abbrev pub invariant-loop-lane : goal.invariant-loop-lane
invariant-loop-lane l = (j : ℕ) → j < l.lane → get_or l.sends j (pos 0) ≡ cell_at l.firing j
