use Rattle.std.proofs.Common.{rules}
use Rattle.soda_formula.proofs.Frames.{closed-on, closed-none, closed-alone}
use Rattle.soda_formula.proofs.marks.behind_close.Goals as goal

pub returns-in_default : goal.returns-in_default
returns-in_default c = closed-alone _ _ (search rules)

pub returns-in-Some-2 : goal.returns-in-Some-2
returns-in-Some-2 c = closed-on _ _ c.in-Some.frame _ _ _ c.in-Some.ensures c.in-Some-2.is c.in_ok-whole.ensures

pub returns-in-None : goal.returns-in-None
returns-in-None c = closed-none _ _ c.in-Some.frame _ _ c.in-Some.ensures c.in-None.is c.in_ok-whole.ensures
