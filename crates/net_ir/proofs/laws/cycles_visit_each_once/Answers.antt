use Rattle.net_ir.proofs.Visits.{visits_each_once}
use Rattle.net_ir.proofs.laws.cycles_visit_each_once.Goals as goal

pub returns : goal.returns
returns c = visits_each_once
