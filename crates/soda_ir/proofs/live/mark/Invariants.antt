use Rattle.std.proofs.Common.{◌≡◌, ℕ, ◌<◌, ◌||◌, ◌==◌, false, length, slice_index_or, take}
use Rattle.std.specs.List.{list_any}
use Rattle.soda_ir.proofs.live.mark.Given as goal

abbrev pub invariant-loop-read : goal.invariant-loop-read
invariant-loop-read l =
    (y : ℕ) → y < length l.marks → slice_index_or l.marks y false ≡ (slice_index_or l.initial.marks y false || list_any (λ r. r.of == y) (take l.read-index l.reads))
