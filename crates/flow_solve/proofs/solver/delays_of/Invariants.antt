use Rattle.std.proofs.Common.{◌≡◌, ℕ, ◌<◌, length, slice_index, pos}
use Rattle.flow_solve.specs.Walk.{at}
use Rattle.flow_solve.proofs.solver.delays_of.Given as goal

-- the delays so far
abbrev pub invariant-loop-t : goal.invariant-loop-t
invariant-loop-t l = record {
  size : length l.delays.items ≡ l.t;
  told : (u : ℕ) → u < l.t → at l.lengths u ≡ pos (slice_index l.delays.items u);
}
