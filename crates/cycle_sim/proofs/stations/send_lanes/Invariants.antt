use Rattle.std.proofs.Common.{◌≡◌, ◌<◌, ℕ, pos, length, get_or, slice_index}
use Rattle.cycle_sim.proofs.stations.send_lanes.Given as goal

abbrev pub invariant-loop-j : goal.invariant-loop-j
invariant-loop-j l = record {
  many : length l.sends ≡ length l.initial.sends;
  sent : (i : ℕ) → i < l.j → get_or l.sends i (pos 0) ≡ get_or l.held (slice_index l.lanes i) (pos 0);
}
