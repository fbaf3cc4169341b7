-- What crates above may cite.

-- tokens are the statements of one list at most
pub use Rattle.soda_syntax.proofs.Laws.{statements_are_one}
-- statements none of whose formulas is too large are a text's syntax
pub use Rattle.soda_syntax.proofs.SmallLines.{IsSmallFormula, IsSmallLine, formula_small, plain_small}
pub use Rattle.soda_syntax.proofs.SmallLines.{AreSmallStatements, none_small, small_before, small_syntax}
