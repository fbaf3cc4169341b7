use Rattle.std.proofs.Common.{length}
use Rattle.flow_solve.proofs.search.longest_steps.Goals as goal

pub returns : goal.returns
returns c = c.walk_back.ensures (length c.args.hold.now) c.search.ensures
