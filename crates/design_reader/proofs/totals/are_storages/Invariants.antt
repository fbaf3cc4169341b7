use Rattle.std.proofs.Common.{◌≡◌, ◌<◌, ℕ, slice_index}
use Rattle.delay_net.specs.Windows.{storage_of}
use Rattle.design_reader.proofs.totals.are_storages.Given as goal

-- so far they are
abbrev pub invariant-loop-tensor : goal.invariant-loop-tensor
invariant-loop-tensor l = (n : ℕ) → n < l.tensor → slice_index l.told n ≡ storage_of l.net.reads l.delays n
