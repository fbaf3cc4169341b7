use Rattle.std.proofs.Common.{sym}
use Rattle.staged_cells.proofs.StageCells.{source_is, stage_in_range}
use Rattle.staged_cells.proofs.laws.stage_cells_are_in_range.Goals as goal

pub returns-clause-range : goal.returns-clause-range
returns-clause-range c = λ p rows params inputs v s z sound e arrays. stage_in_range p sound rows params inputs v s e arrays z

pub returns-clause-source : goal.returns-clause-source
returns-clause-source c = λ p rows params inputs v s z sound e arrays i. sym (source_is p sound rows params inputs v s e arrays i z)
