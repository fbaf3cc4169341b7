-- What crates above cite: what stands where, the taps of a lane, and that a module's number is its place.
pub use Rattle.net_shape.proofs.Feeds.{all-joined, reader_there}
pub use Rattle.net_shape.proofs.Numbers.{far_is, has_far, near_is, place_far, place_near, taps_rise}
pub use Rattle.net_shape.proofs.Orderly.{compute_place, sink_place}
pub use Rattle.net_shape.proofs.Placed.{At, at_first, at_joined, at_place, length_joined, sum_below_ones}
pub use Rattle.net_shape.proofs.Rising.{above_later, all_above, gap_positive, keep_all, kept_from, rises-filter}
pub use Rattle.net_shape.proofs.Sizes.{queues_bound}
pub use Rattle.net_shape.proofs.Stands.{each_there, number_is, stands}
