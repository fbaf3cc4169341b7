use Rattle.sim_course.proofs.Ending.{one_end}
use Rattle.sim_course.proofs.laws.runs_end_once.Goals as goal

pub returns : goal.returns
returns c = one_end
