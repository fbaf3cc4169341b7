-- Which status is due, by how a run ended.
use Rattle.std.proofs.Common.{◌≡◌, ◌⊎◌, ℕ, List, Option, refl, inl, inr}
use Rattle.soda_io.specs.Cause.{Rose}
use Rattle.soda_io.specs.Store.{Store}
use Rattle.job_files.specs.Contents.{Holding}
use Rattle.job_files.specs.Files.{JobFile}
use Rattle.command_words.specs.Orders.{Asked}
use Rattle.job_status.specs.declared.status.Status.{Status}
use Rattle.job_status.specs.declared.status.Status.TheVariants as is
use Rattle.sodac_cli.specs.Correct.{IsDueBy}
use Rattle.job_status.specs.Counts.{FileFaults, OutFaults}
use Rattle.sodac_cli.specs.Due.{DueFor}
use Rattle.job_status.specs.Endings.{Ending, due, ending_of, file_fault, memory, out_fault}
use Rattle.sodac_cli.specs.Journal.{AsksBy}

-- what the journal shows is due
pub due_of_journal : (first : ℕ) (begun : Store) (asked : Option Asked) (given : ℕ) (now : Store) (e : Ending) (s : Status)
    → AsksBy first begun asked given now e s → IsDueBy e begun.bytes asked s
due_of_journal first begun asked given now due s j = (j.files, j.due)
due_of_journal first begun asked given now (file_fault role) s j = tt
due_of_journal first begun asked given now out_fault s (inl j) = inl (j.files, j.due)
due_of_journal first begun asked given now out_fault s (inr j) = inr (j.runs.a, j.runs.is, j.runs.built, j.files, j.runs.may)
due_of_journal first begun asked given now memory s j = tt

-- where one status alone is due, and no count rose
module _ (h : Holding) (asked : Option Asked)
    (one : (files others : List JobFile) (s t : Status) → DueFor h asked files s → DueFor h asked others t → (s ≡ t) × (files ≡ others))
    (before now out_before out_now : ℕ) (files : List JobFile) (own : Status) (is_due : DueFor h asked files own)
    (sound : Rose before now → ⊥) (out_sound : Rose out_before out_now → ⊥) where
  pub completed : (s : Status) → IsDueBy (ending_of s) h asked s → FileFaults before now s → OutFaults out_before out_now s
      → (s ≡ own) ⊎ (s ≡ is.Memory)
  completed (is.FileFault role) d faults out_faults = absurd (sound faults)
  completed is.OutFault d faults out_faults = absurd (out_sound out_faults)
  completed is.Memory d faults out_faults = inr refl
  completed s d faults out_faults = inl ((one d.0 files s own d.1 is_due).0)
