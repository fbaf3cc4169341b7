use Rattle.std.proofs.Common.{◌≡◌, ℕ, false, length, slice_index_or}
use Rattle.soda_ir.specs.Counts.{is_live, is_wanted}
use Rattle.soda_ir.specs.Points.{listed}
use Rattle.soda_ir.specs.Program.{plain}
use Rattle.soda_ir.proofs.live.live_tensors.Given as goal

abbrev pub invariant-loop-later : goal.invariant-loop-later
invariant-loop-later l = record {
  live : l.live.items ≡ listed (λ later. listed (is_live (plain l.parts) later) (length l.parts.tensors)) l.later;
  wanted : (x : ℕ) → slice_index_or l.wanted.items x false ≡ is_wanted (plain l.parts) l.later x;
  each : length l.wanted.items ≡ length (plain l.parts).tensors;
}
