-- What crates above cite: numbers and points, what a formula's value depends on, and that cells are in range.
pub use Rattle.soda_eval.proofs.Numbers.{linear_moved, number_back, point_there, read_number}
pub use Rattle.soda_eval.proofs.Touched.{each_from, each_more, every_same, valued_same}
pub use Rattle.soda_eval.proofs.From.{by_point}
pub use Rattle.soda_eval.proofs.Depth.{depth_means, one_cell, one_region}
pub use Rattle.soda_eval.proofs.Ranked.{rank, ranks, ranks_below}
pub use Rattle.soda_eval.proofs.InRange.{all_listed, border_input, cell_in_range, get_in_range, inputs_in_range}
