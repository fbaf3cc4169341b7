-- What crates above cite: a valid program of fitting sizes is what its canonical text is accepted as, and no other program has that text.
pub use Rattle.soda_parse.proofs.Accepted.{accepted, accepted_text, alone}
