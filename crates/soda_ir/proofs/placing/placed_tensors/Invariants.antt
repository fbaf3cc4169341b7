use Rattle.std.proofs.Common.{◌≡◌, ℕ, true, false, slice_index_or}
use Rattle.soda_ir.specs.Counts.{can_be_placed, has_place}
use Rattle.soda_ir.specs.Program.{plain}
use Rattle.soda_ir.proofs.placing.placed_tensors.Given as goal

abbrev pub invariant-loop-round : goal.invariant-loop-round
invariant-loop-round l = record {
  placed : (x : ℕ) → slice_index_or l.placed.items x false ≡ true → can_be_placed (plain l.parts) x ≡ true;
  whole : (x : ℕ) → has_place (plain l.parts) l.round x ≡ true → slice_index_or l.placed.items x false ≡ true;
}
