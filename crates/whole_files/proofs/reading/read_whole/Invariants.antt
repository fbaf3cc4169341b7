use Rattle.std.proofs.Common.{◌≡◌, ◌≤◌, ◌+◌, ◌-◌, length, vec_len}
use Rattle.whole_files.specs.Machine.SoFar.{Took}
use Rattle.whole_files.proofs.reading.read_whole.Given as goal

abbrev pub invariant-loop-block : goal.invariant-loop-block
invariant-loop-block g l = record {
  given : g.F.Files.given l.files ≡ g.F.Files.given l.initial.files;
  faults : g.F.Files.faults l.files ≡ g.F.Files.faults l.initial.files;
  block : length l.block ≡ 4096;
  few : vec_len l.bytes ≤ l.most + 1;
  took : g.F.Files.tells → Took (g.F.Files.given l.initial.files) (g.F.Files.store l.initial.files) (g.F.Files.store l.files) l.id l.bytes.items;
}

abbrev pub decreases-loop-block : goal.decreases-loop-block
decreases-loop-block g l = l.most + 1 - vec_len l.bytes
