use Rattle.std.proofs.Common.{◌≡◌, ◌<◌, ℕ, pos, get_or}
use Rattle.cycle_sim.proofs.stations.send_same.Given as goal

abbrev pub invariant-loop-value : goal.invariant-loop-value
invariant-loop-value l = (j : ℕ) → j < l.value-index → get_or l.sends j (pos 0) ≡ l.sent
