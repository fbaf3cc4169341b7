use Rattle.std.proofs.Common.{◌≡◌, ℕ, true, false, slice_index_or}
use Rattle.soda_ir.specs.Counts.{can_be_placed}
use Rattle.soda_ir.specs.Program.{plain}
use Rattle.soda_ir.proofs.placing.place_in_order.Given as goal

abbrev pub invariant-loop-tensor : goal.invariant-loop-tensor
invariant-loop-tensor l =
    (x : ℕ) → slice_index_or l.marks x false ≡ true → can_be_placed (plain l.parts) x ≡ true
