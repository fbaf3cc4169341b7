use Rattle.std.proofs.Common.{◌≡◌, ◌+◌, ◌≤◌, length}
use Rattle.soda_ir.specs.Counts.{distinct_count}
use Rattle.soda_ir.proofs.reads.distinct_count.Given as goal

abbrev pub invariant-loop-rest : goal.invariant-loop-rest
invariant-loop-rest l = record {
  counted : l.count + distinct_count l.rest ≡ distinct_count l.reads;
  most : l.count + length l.rest ≤ length l.reads;
}

abbrev pub decreases-loop-rest : goal.decreases-loop-rest
decreases-loop-rest l = length l.rest
