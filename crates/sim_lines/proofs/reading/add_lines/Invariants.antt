use Rattle.std.proofs.Common.{length}
use Rattle.soda_ir.specs.Program.{plain}
use Rattle.sim_lines.proofs.Progress.{AreRead}
use Rattle.sim_lines.proofs.reading.add_lines.Given as goal

abbrev pub invariant-loop-rest : goal.invariant-loop-rest
invariant-loop-rest l = AreRead (plain l.program) l.bytes l.rest l.number l.initial.stalls.items l.stalls.items

abbrev pub decreases-loop-rest : goal.decreases-loop-rest
decreases-loop-rest l = length l.rest
