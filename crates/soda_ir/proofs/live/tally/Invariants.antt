use Rattle.std.proofs.Common.{◌≡◌, ℕ, ◌+◌, ◌*◌, ◌^◌, ◌≤◌, false, length, slice_index_or, if◌then◌else◌}
use Rattle.soda_ir.specs.Counts.{count_below, distinct_count, is_input, is_live_statement, is_wanted, sum_below, tensor_reads}
use Rattle.soda_ir.specs.Program.{plain}
use Rattle.soda_ir.proofs.live.tally.Given as goal

abbrev pub invariant-loop-later : goal.invariant-loop-later
invariant-loop-later l =
    let p = plain l.parts in
    record {
      live : l.live ≡ count_below (is_input p) (length p.tensors) + sum_below (λ j. count_below (is_live_statement p j) (length p.tensors)) l.later;
      reads : l.reads ≡ sum_below (λ j. sum_below (λ x. if is_live_statement p j x then distinct_count (tensor_reads p x) else 0) (length p.tensors)) l.later;
      few_live : l.live ≤ 512 + 512 * l.later;
      few_reads : l.reads ≤ 2 ^ 64 * 512 * l.later;
      wanted : (x : ℕ) → slice_index_or l.wanted.items x false ≡ is_wanted p l.later x;
      each : length l.wanted.items ≡ length p.tensors;
    }
