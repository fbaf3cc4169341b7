use Rattle.soda_syntax.proofs.Laws.{statements_are_one}
use Rattle.soda_syntax.proofs.grammar_laws.statements_are_one.Goals as goal

pub returns : goal.returns
returns c = statements_are_one
