use Rattle.std.proofs.Common.{◌≡◌, ◌≤◌, ◌-◌, length}
use Rattle.whole_files.specs.Machine.SoFar.{Put}
use Rattle.whole_files.proofs.writing.write_whole.Given as goal

abbrev pub invariant-loop-done : goal.invariant-loop-done
invariant-loop-done g l = record {
  done : l.done ≤ length l.bytes;
  given : g.F.Files.given l.files ≡ g.F.Files.given l.initial.files;
  faults : g.F.Files.faults l.files ≡ g.F.Files.faults l.initial.files;
  put : g.F.Files.tells → Put (g.F.Files.given l.initial.files) (g.F.Files.store l.initial.files) (g.F.Files.store l.files) l.id l.done l.bytes;
}

abbrev pub decreases-loop-done : goal.decreases-loop-done
decreases-loop-done g l = length l.bytes - l.done
