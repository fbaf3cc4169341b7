use Rattle.std.proofs.Common.{◌≡◌, ℕ, ◌<◌, true}
use Rattle.soda_ir.specs.Counts.{can_be_placed}
use Rattle.soda_ir.specs.Program.{plain}
use Rattle.soda_ir.proofs.placing.are_all_placed.Given as goal

abbrev pub invariant-loop-tensor : goal.invariant-loop-tensor
invariant-loop-tensor l = (x : ℕ) → x < l.tensor → can_be_placed (plain l.parts) x ≡ true
