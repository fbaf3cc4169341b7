use Rattle.std.proofs.Common.{◌≡◌, ◌≤◌, ◌&&◌, ◌==◌, false, length, take}
use Rattle.std.specs.List.{list_any}
use Rattle.std.specs.Ordering.{int_eq}
use Rattle.delay_net.specs.declared.net.Read.{Read}
use Rattle.staged_cells.specs.Cells.{reads_by}
use Rattle.staged_cells.proofs.ports.port_of.Given as goal

abbrev pub invariant-loop-read : goal.invariant-loop-read
invariant-loop-read l = record {
  port : l.port ≡ length (reads_by (take l.read-index l.reads) l.reader);
  none : list_any (λ (r : Read). r.of == l.of && int_eq r.offset l.offset) (reads_by (take l.read-index l.reads) l.reader) ≡ false;
  few : l.port ≤ l.read-index;
}
