use Rattle.std.proofs.Common.{◌≡◌}
use Rattle.soda_ir.specs.Counts.{is_input}
use Rattle.soda_ir.specs.Points.{listed}
use Rattle.soda_ir.specs.Program.{plain}
use Rattle.time_stages.proofs.placing.inputs_marked.Given as goal

abbrev pub invariant-loop-tensor : goal.invariant-loop-tensor
invariant-loop-tensor l = l.marks.items ≡ listed (is_input (plain l.parts)) l.tensor
