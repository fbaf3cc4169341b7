use Rattle.soda_formula.proofs.Laws.{formula_is_one}
use Rattle.soda_formula.proofs.grammar_laws.formula_is_one.Goals as goal

pub returns : goal.returns
returns c = formula_is_one
