use Rattle.std.proofs.Common.{◌≡◌, ℕ, ◌<◌, false, get_or, length, take}
use Rattle.delay_net.specs.Limits.{most_tensors}
use Rattle.delay_net.specs.Certificate.{sum_read, is_read, width_if_read}
use Rattle.flow_solve.proofs.start.first_amounts.Given as goal

-- each tensor that was read so far has its width, and is marked
abbrev pub invariant-loop-read : goal.invariant-loop-read
invariant-loop-read l = record {
  size : length l.amounts.items ≡ l.read-index;
  marks : length l.met ≡ most_tensors;
  told : (t : ℕ) → sum_read t (take l.read-index l.read-items) l.amounts.items ≡ width_if_read l.weights (take l.read-index l.read-items) t;
  met : (t : ℕ) → t < most_tensors → get_or l.met t false ≡ is_read (take l.read-index l.read-items) t;
}
