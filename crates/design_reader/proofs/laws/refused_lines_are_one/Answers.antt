use Rattle.design_reader.proofs.OneLine.{one_line}
use Rattle.design_reader.proofs.laws.refused_lines_are_one.Goals as goal

pub returns : goal.returns
returns c = one_line
