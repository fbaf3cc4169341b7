-- What crates above may cite.

-- some tokens are at most one formula, and no tokens are none
pub use Rattle.soda_formula.proofs.Laws.{formula_is_one, formula_is_some}
-- a whole formula goes on with no name
pub use Rattle.soda_formula.proofs.Laws.{name_ends_formula}
-- each kind of written formula, with the formula that it stands for
pub use Rattle.soda_formula.proofs.Tree.{levels}
