use Rattle.std.proofs.Common.{[], refl}
use Rattle.soda_ir.specs.Counts.{formula_in}
use Rattle.staged_cells.proofs.Sent.{border_typed, formula_there, formula_typed}
use Rattle.staged_cells.proofs.laws.formulas_read_ports.Goals as goal

pub returns-clause-cells : goal.returns-clause-cells
returns-clause-cells c = λ p v s f sound e d. formula_typed p sound 0 [] [] v s e f d

pub returns-clause-border : goal.returns-clause-border
returns-clause-border c = λ p v s sound e h. border_typed p sound 0 [] [] v s e h

pub returns-clause-formula : goal.returns-clause-formula
returns-clause-formula c = λ p v s sound e h. formula_there p sound 0 [] [] v s e h (formula_in p s.tensor) refl
