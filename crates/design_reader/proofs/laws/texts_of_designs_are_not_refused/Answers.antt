use Rattle.design_reader.proofs.Unrefused.{unrefused}
use Rattle.design_reader.proofs.laws.texts_of_designs_are_not_refused.Goals as goal

pub returns : goal.returns
returns c = unrefused
