use Rattle.flow_solve.proofs.Existence.{plan_there}
use Rattle.flow_solve.proofs.laws.plans_exist.Goals as goal

pub returns : goal.returns
returns c = plan_there
