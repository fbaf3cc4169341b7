use Rattle.flow_solve.proofs.LatticeLemmas.{lesser_is_least}
use Rattle.flow_solve.proofs.PlanLemmas.{plan_one}
use Rattle.flow_solve.proofs.laws.least_plans_meet.Goals as goal

pub returns-clause-least : goal.returns-clause-least
returns-clause-least c = lesser_is_least

pub returns-clause-one : goal.returns-clause-one
returns-clause-one c = λ weights reads first second plan other. plan_one weights reads second first other plan
