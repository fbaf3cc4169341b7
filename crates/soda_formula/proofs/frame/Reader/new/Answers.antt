use Rattle.soda_formula.proofs.Frames.{start-is}
use Rattle.soda_formula.proofs.frame.Reader.new.Goals as goal

pub returns : goal.returns
returns c = start-is _ c.new.ensures
