use Rattle.std.proofs.Common.{◌≡◌, drop, max}
use Rattle.delay_net.specs.Windows.{storage_of}
use Rattle.delay_net.proofs.storing.storage_of.Given as goal

-- the greatest age so far, and the storage by the reads that are left, give the storage
abbrev pub invariant-loop-read : goal.invariant-loop-read
invariant-loop-read l =
    max l.greatest (storage_of (drop l.read-index l.read-items) l.delays l.tensor) ≡ storage_of l.read-items l.delays l.tensor
