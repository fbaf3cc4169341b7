use Rattle.staged_cells.proofs.Designs.{input_place, input_turn}
use Rattle.staged_cells.proofs.laws.inputs_are_staged_first.Goals as goal

pub returns : goal.returns
returns c = λ p v s sound e i. (input_turn p sound v s e i, input_place p sound v s e i)
