-- What crates above cite: the elements of lists and of what a filter keeps, lists that rise, the taps of a lane, and the
-- gaps of all lanes.
pub use Rattle.reuse_chain.proofs.Members.{cases, filtered, head, none, ranged, tail}
pub use Rattle.reuse_chain.proofs.Rising.{Rises, by_pairs, range_rises, rises, same, sum-gaps_of}
pub use Rattle.reuse_chain.proofs.OfLane.{taps_there}
pub use Rattle.reuse_chain.proofs.OfAllLanes.{gaps_of_all_lanes}
