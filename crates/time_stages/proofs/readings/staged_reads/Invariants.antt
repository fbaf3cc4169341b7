use Rattle.std.proofs.Common.{◌≡◌}
use Rattle.soda_ir.specs.Program.{plain}
use Rattle.time_stages.specs.Staged.{reads_of_first}
use Rattle.time_stages.proofs.readings.staged_reads.Given as goal

abbrev pub invariant-loop-number : goal.invariant-loop-number
invariant-loop-number l = l.reads.items ≡ reads_of_first (plain l.program) l.tensors l.number
