use Rattle.soda_formula.proofs.Laws.{no_equals_sign}
use Rattle.soda_formula.proofs.grammar_laws.no_equals_sign.Goals as goal

pub returns : goal.returns
returns c = no_equals_sign
