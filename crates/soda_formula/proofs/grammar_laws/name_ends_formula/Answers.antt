use Rattle.soda_formula.proofs.Laws.{name_ends_formula}
use Rattle.soda_formula.proofs.grammar_laws.name_ends_formula.Goals as goal

pub returns : goal.returns
returns c = name_ends_formula
