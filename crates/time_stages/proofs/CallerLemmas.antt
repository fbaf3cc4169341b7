-- What crates above cite: what stands where in the placing order, which tensors are outputs, no margins are margins, what
-- is at most one number is at most a greater one, and what staged tensors and their reads are.
pub use Rattle.time_stages.proofs.Closed.{no_input_output, true_or_not}
pub use Rattle.time_stages.proofs.Made.{none_are_margins, over_inputs}
pub use Rattle.time_stages.proofs.Order.{all_there, formula_passes, next_at, next_parts, order_behind, order_below, there_push}
pub use Rattle.time_stages.proofs.OutputNumbers.{border_is_input, count_first, input_numbered, output_is, outputs_below}
pub use Rattle.time_stages.proofs.Sources.{each_staged, own_margins, own_turn, place_in, reads_by_it, same_as, source_staged}
pub use Rattle.time_stages.proofs.StagedReads.{get_at, place_within, reads_counted}
pub use Rattle.time_stages.proofs.StagedCounts.{tensors_counted}
use Rattle.std.proofs.Common.{ℕ, ◌≤◌, arith}
use Rattle.time_stages.specs.declared.margins.Margins.{Margins}
use Rattle.time_stages.specs.Margins.{AreMargins}

pub most_margins : (dims least most : ℕ) (m : Margins) → least ≤ most → AreMargins dims least m → AreMargins dims most m
most_margins dims least most m l a = record {
  low_dims = a.low_dims;
  high_dims = a.high_dims;
  low_most = λ d. omega (arith, a.low_most d);
  high_most = λ d. omega (arith, a.high_most d);
}
