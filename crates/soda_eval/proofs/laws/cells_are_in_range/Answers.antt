use Rattle.soda_eval.proofs.InRange.{arrays_in_range, cell_in_range, inputs_in_range}
use Rattle.soda_eval.proofs.laws.cells_are_in_range.Goals as goal

pub returns-clause-cell : goal.returns-clause-cell
returns-clause-cell c = λ p rows g params sound h x q l. cell_in_range p sound rows params g h x q l

pub returns-clause-inputs : goal.returns-clause-inputs
returns-clause-inputs c = λ p rows params inputs t sound h l j q e. inputs_in_range p sound rows params inputs h t l j q e

pub returns-clause-arrays : goal.returns-clause-arrays
returns-clause-arrays c = λ p rows params inputs sound h. arrays_in_range p sound rows params inputs h
