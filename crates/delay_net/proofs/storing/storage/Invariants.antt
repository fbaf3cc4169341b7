use Rattle.std.proofs.Common.{◌≡◌, ◌*◌, ◌≤◌, ◌^◌, slice_index}
use Rattle.delay_net.specs.Sums.{sum_below}
use Rattle.delay_net.specs.Windows.{storage_of}
use Rattle.delay_net.proofs.storing.storage.Given as goal

-- the bits of the tensors so far, each less than 2 ^ 72
abbrev pub invariant-loop-tensor : goal.invariant-loop-tensor
invariant-loop-tensor l = record {
  told : l.bits ≡ sum_below l.tensor (λ t. slice_index l.net.weights t * storage_of l.net.reads l.delays t);
  small : l.bits ≤ l.tensor * 2 ^ 72;
}
