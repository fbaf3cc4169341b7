-- What crates above cite: what a scan and raw cells say of a file, and the sizes of cells.
pub use Rattle.array_bytes.proofs.ScanEnds.{ended_few, ends_whole, found_all, found_first}
pub use Rattle.array_bytes.proofs.RawLaws.{own_bytes, raw_fault, raw_found_first, raw_more, raw_none, raw_push, raw_short, raw_whole, size_some}
pub use Rattle.array_bytes.proofs.SizeLaws.{in_word, length_little}
pub use Rattle.array_bytes.proofs.Tests.{far_is_none, in_range_of, of_in_range}
