-- What crates above cite: programs that are told by their canonical text, and a design by the text of its plan.
pub use Rattle.module_text.proofs.OneText.{each_alone, from_total, same_plan, text_flat}
