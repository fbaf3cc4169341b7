-- What crates above cite: no number is greater than the greatest, and there is a width for each staged tensor.
pub use Rattle.net_build.proofs.Greatest.{each_within}
pub use Rattle.net_build.proofs.Programs.{widths_length}
