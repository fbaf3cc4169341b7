use Rattle.std.proofs.Common.{◌≡◌, false, take}
use Rattle.std.specs.List.{list_any}
use Rattle.soda_ir.specs.Counts.{is_same_read}
use Rattle.soda_ir.proofs.reads.has_read.Given as goal

abbrev pub invariant-loop-other : goal.invariant-loop-other
invariant-loop-other l = list_any (is_same_read l.read) (take l.other-index l.reads) ≡ false
