-- What crates above cite: 0 is in every range, a wrap is in range, a number in range is its own wrap, what wraps a
-- number by its remainder, and what bounds a quotient and a remainder.
pub use Rattle.int_types.proofs.Bounds.{abs_div, rem_high, rem_low, rest_is}
pub use Rattle.int_types.proofs.Place.{multiple, place_is, rem_below_size, rem_from}
pub use Rattle.int_types.proofs.Wrapped.{own_wrap, zero_in_range, wrapped_in_range, wrapped_wraps, wrapped_same, wrapped_is, low_wrap, high_wrap}
