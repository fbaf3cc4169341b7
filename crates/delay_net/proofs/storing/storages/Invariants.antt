use Rattle.std.proofs.Common.{◌≡◌, ℕ, ◌<◌, length, slice_index, drop, max}
use Rattle.delay_net.specs.Limits.{most_tensors}
use Rattle.delay_net.specs.Windows.{storage_of}
use Rattle.delay_net.proofs.storing.storages.Given as goal

-- at each tensor, the greatest age so far and the storage by the reads that are left give the storage
abbrev pub invariant-loop-read : goal.invariant-loop-read
invariant-loop-read l = record {
  size : length l.greatest ≡ most_tensors;
  told : (tensor : ℕ) → tensor < most_tensors
      → max (slice_index l.greatest tensor) (storage_of (drop l.read-index l.read-items) l.delays tensor) ≡ storage_of l.read-items l.delays tensor;
}
