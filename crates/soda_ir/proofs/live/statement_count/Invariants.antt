use Rattle.std.proofs.Common.{◌≡◌, ◌≤◌, ◌&&◌, not, false, slice_index_or}
use Rattle.soda_ir.specs.Counts.{count_below, is_input}
use Rattle.soda_ir.specs.Program.{plain}
use Rattle.soda_ir.proofs.live.statement_count.Given as goal

abbrev pub invariant-loop-x : goal.invariant-loop-x
invariant-loop-x l =
    (l.count ≡ count_below (λ x. not (is_input (plain l.parts) x) && slice_index_or l.live x false) l.x) × (l.count ≤ l.x)
