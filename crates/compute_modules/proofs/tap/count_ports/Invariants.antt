use Rattle.std.proofs.Common.{◌≡◌, ◌≤◌, length, take}
use Rattle.staged_cells.specs.Cells.{reads_by}
use Rattle.compute_modules.proofs.tap.count_ports.Given as goal

abbrev pub invariant-loop-read : goal.invariant-loop-read
invariant-loop-read l = record {
  count : l.count ≡ length (reads_by (take l.read-index l.reads) l.reader);
  few : l.count ≤ l.read-index;
}
