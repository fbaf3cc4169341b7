use Rattle.std.proofs.Common.{◌≡◌, ℕ, ◌<◌, ◌&&◌, ◌||◌, false, not, length, slice_index_or}
use Rattle.soda_ir.specs.Counts.{reads_in, some_below}
use Rattle.soda_ir.proofs.live.mark_read.Given as goal

abbrev pub invariant-loop-x : goal.invariant-loop-x
invariant-loop-x l =
    (y : ℕ) → y < length l.next → slice_index_or l.next y false ≡ (slice_index_or l.initial.next y false || some_below (λ x. (slice_index_or l.marks x false && not (slice_index_or l.before x false)) && reads_in l.graph x y) l.x)
