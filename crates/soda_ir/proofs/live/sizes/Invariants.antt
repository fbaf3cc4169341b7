use Rattle.std.proofs.Common.{◌≡◌, map, take}
use Rattle.soda_ir.specs.Counts.{distinct_count}
use Rattle.soda_ir.proofs.live.sizes.Given as goal

abbrev pub invariant-loop-reads : goal.invariant-loop-reads
invariant-loop-reads l = l.sizes.items ≡ map distinct_count (take l.reads-index l.graph)
