use Rattle.std.proofs.Common.{rules, ◌∙◌}
use Rattle.soda_formula.proofs.Frames.{parted-on, parted-none, parted-alone}
use Rattle.soda_formula.proofs.marks.behind_comma.Goals as goal

pub returns-in_default : goal.returns-in_default
returns-in_default c = parted-alone _ _ (search rules)

pub returns-in_ok-waiting-in-Some-parted : goal.returns-in_ok-waiting-in-Some-parted
returns-in_ok-waiting-in-Some-parted c =
    c.in_ok-waiting-in-Some-parted.ensures ∙ parted-on _ _ c.in-Some.frame c.in-Some-parted.frame _ c.in-Some.ensures c.in-Some-parted.ensures

pub returns-in-None : goal.returns-in-None
returns-in-None c = parted-none _ _ c.in-Some.frame _ c.in-Some.ensures c.in-None.ensures
