-- What crates above cite: sums with one number more.
pub use Rattle.ring_region.proofs.PartSteps.{sum_one_more}
