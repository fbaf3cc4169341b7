use Rattle.std.proofs.Common.{map, length}
use Rattle.soda_ir.specs.Program.{plain_param}
use Rattle.param_lines.proofs.Progress.{AreRowsRead}
use Rattle.param_lines.proofs.reading.read_rows.Given as goal

abbrev pub invariant-loop-rest : goal.invariant-loop-rest
invariant-loop-rest l = AreRowsRead (map plain_param l.params) l.bytes l.rest l.number l.slots

abbrev pub decreases-loop-rest : goal.decreases-loop-rest
decreases-loop-rest l = length l.rest
