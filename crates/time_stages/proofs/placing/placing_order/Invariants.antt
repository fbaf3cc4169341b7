use Rattle.std.proofs.Common.{◌≡◌, ℕ, false, length, slice_index_or}
use Rattle.soda_ir.specs.Program.{plain}
use Rattle.time_stages.specs.Placing.{is_there, placed_in}
use Rattle.time_stages.proofs.placing.placing_order.Given as goal

abbrev pub invariant-loop-step : goal.invariant-loop-step
invariant-loop-step l = record {
  order : l.order.items ≡ placed_in (plain l.parts) l.step;
  marks : (x : ℕ) → slice_index_or l.marks.items x false ≡ is_there (plain l.parts) l.order.items x;
  long : length l.marks.items ≡ length l.parts.tensors;
}
