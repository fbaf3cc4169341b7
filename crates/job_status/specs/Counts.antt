-- The counts of faults: no fault is passed over, and each has its count.
use Rattle.std.specs.Prelude.{◌≡◌, ℕ}
use Rattle.soda_io.specs.Cause.{Rose}
use Rattle.job_status.specs.declared.status.Status.{Status}
use Rattle.job_status.specs.Endings.{Ending, ending_of, due, file_fault, memory, out_fault}

-- the count of the files
abbrev pub FileFaultsBy : Ending → ℕ → ℕ → Type 0
FileFaultsBy due before now = now ≡ before
FileFaultsBy (file_fault role) before now = Rose before now
FileFaultsBy out_fault before now = now ≡ before
FileFaultsBy memory before now = Unit {0}

abbrev pub FileFaults : ℕ → ℕ → Status → Type 0
FileFaults before now status = FileFaultsBy (ending_of status) before now

-- the count of `out`
abbrev pub OutFaultsBy : Ending → ℕ → ℕ → Type 0
OutFaultsBy due before now = now ≡ before
OutFaultsBy (file_fault role) before now = now ≡ before
OutFaultsBy out_fault before now = Rose before now
OutFaultsBy memory before now = Unit {0}

abbrev pub OutFaults : ℕ → ℕ → Status → Type 0
OutFaults before now status = OutFaultsBy (ending_of status) before now
