use Rattle.std.proofs.Common.{◌≡◌, ◌≤◌}
use Rattle.soda_ir.specs.Counts.{count_below, is_input}
use Rattle.soda_ir.specs.Program.{plain}
use Rattle.soda_ir.proofs.live.input_count.Given as goal

abbrev pub invariant-loop-x : goal.invariant-loop-x
invariant-loop-x l = (l.count ≡ count_below (is_input (plain l.parts)) l.x) × (l.count ≤ l.x)
