use Rattle.std.proofs.Common.{◌≡◌, ◌≤◌, ◌*◌, ◌^◌, ◌&&◌, not, false, slice_index_or, if◌then◌else◌}
use Rattle.soda_ir.specs.Counts.{is_input, sum_below}
use Rattle.soda_ir.specs.Program.{plain}
use Rattle.soda_ir.proofs.live.statement_reads.Given as goal

abbrev pub invariant-loop-x : goal.invariant-loop-x
invariant-loop-x l =
    (l.count ≡ sum_below (λ x. if not (is_input (plain l.parts) x) && slice_index_or l.live x false then slice_index_or l.sizes x 0 else 0) l.x) × (l.count ≤ 2 ^ 64 * l.x)
