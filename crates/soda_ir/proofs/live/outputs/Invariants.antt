use Rattle.std.proofs.Common.{◌≡◌}
use Rattle.soda_ir.specs.Counts.{is_output}
use Rattle.soda_ir.specs.Points.{listed}
use Rattle.soda_ir.specs.Program.{plain}
use Rattle.soda_ir.proofs.live.outputs.Given as goal

abbrev pub invariant-loop-x : goal.invariant-loop-x
invariant-loop-x l = l.marks.items ≡ listed (is_output (plain l.parts)) l.x
