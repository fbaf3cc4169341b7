use Rattle.soda_formula.proofs.Laws.{formula_is_some}
use Rattle.soda_formula.proofs.grammar_laws.formula_is_some.Goals as goal

pub returns : goal.returns
returns c = formula_is_some
