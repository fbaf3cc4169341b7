use Rattle.std.proofs.Common.{◌≡◌, ℕ, ◌<◌, ◌&&◌, false, true, length, slice_index_or}
use Rattle.soda_ir.specs.Counts.{is_reached, reads_in, some_below}
use Rattle.soda_ir.proofs.live.reached.Given as goal

abbrev pub invariant-loop-round : goal.invariant-loop-round
invariant-loop-round l = record {
  each : length l.marks.items ≡ length l.graph;
  reached : (y : ℕ) → y < length l.graph → slice_index_or l.marks.items y false ≡ is_reached (reads_in l.graph) (length l.graph) (λ x. slice_index_or l.wanted x false) l.round y;
  behind : (y : ℕ) → y < length l.graph → some_below (λ x. slice_index_or l.before.items x false && reads_in l.graph x y) (length l.graph) ≡ true → slice_index_or l.marks.items y false ≡ true;
}
