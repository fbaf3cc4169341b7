-- What crates above cite: how many cells are before a firing, what its lanes hold, and what it hands on, by the laws of
-- the same words.
pub use Rattle.file_modules.proofs.Lanes.{begins_with_none, ends_with_all, hands_first, hands_next, lane_below, lane_past, lane_there, next_first, sends_cells}
