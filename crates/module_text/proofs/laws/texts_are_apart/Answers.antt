use Rattle.module_text.proofs.OneText.{one_design}
use Rattle.module_text.proofs.laws.texts_are_apart.Goals as goal

pub returns : goal.returns
returns c = one_design
