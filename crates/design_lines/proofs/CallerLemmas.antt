-- What crates above cite: numbered lines in parts, and that lines are told from what follows them.
pub use Rattle.design_lines.proofs.Numbered.{numbered-append, numbered_more, written_more}
pub use Rattle.design_lines.proofs.Plans.{numbered_apart, read_apart, same_list, small_at, tensor_apart}
pub use Rattle.design_lines.proofs.Programs.{AreAlone, few_lines, program_apart}
-- texts without a line feed, and that lines are told from what follows them
pub use Rattle.design_lines.proofs.Apart.{line_apart}
pub use Rattle.design_lines.proofs.Inline.{AllInline, canonical_inline, inline_append, is_inline, number_inline}
pub use Rattle.design_lines.proofs.Pieces.{one_line}
pub use Rattle.design_lines.proofs.Programs.{program_line_inline}
