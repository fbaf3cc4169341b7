use Rattle.soda_formula.proofs.Frames.{waiting-is}
use Rattle.soda_formula.proofs.stack.waiting.Goals as goal

pub returns : goal.returns
returns c = waiting-is _ _ _ c.in_ok-push.ensures.ok
