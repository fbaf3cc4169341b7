use Rattle.std.proofs.Common.{◌≡◌, ℕ, ◌<◌, ◌≤◌, ◌^◌, ◌*◌, ◌+◌, length, slice_index, drop}
use Rattle.delay_net.specs.Limits.{most_tensors}
use Rattle.delay_net.specs.Certificate.{sum_at}
use Rattle.delay_net.specs.pieces.End.{tensor_at}
use Rattle.delay_net.proofs.certificate.sums.Given as goal

-- at each tensor, the sum so far and the sum over the reads that are left give the sum
abbrev pub invariant-loop-i : goal.invariant-loop-i
invariant-loop-i l = record {
  size : length l.sums ≡ most_tensors;
  told : (tensor : ℕ) → tensor < most_tensors
      → slice_index l.sums tensor + sum_at (tensor_at l.end) tensor (drop l.i l.reads) (drop l.i l.numbers) ≡ sum_at (tensor_at l.end) tensor l.reads l.numbers;
  small : (tensor : ℕ) → tensor < most_tensors → slice_index l.sums tensor ≤ l.i * 2 ^ 32;
}
