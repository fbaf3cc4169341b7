use Rattle.std.proofs.Common.{◌≡◌, ◌*◌, ◌≤◌, ◌^◌}
use Rattle.delay_net.specs.Sums.{sum_below}
use Rattle.delay_net.specs.Windows.{storage_of}
use Rattle.net_build.proofs.layouts.cells_held.Given as goal

-- the storage of the tensors so far, none of which has 2 ^ 43 cells
abbrev pub invariant-loop-tensor : goal.invariant-loop-tensor
invariant-loop-tensor l = record {
  told : l.cells ≡ sum_below l.tensor (storage_of l.net.reads l.delays);
  small : l.cells ≤ l.tensor * 2 ^ 43;
}
