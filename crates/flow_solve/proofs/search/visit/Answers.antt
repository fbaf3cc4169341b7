use Rattle.std.proofs.Common.{length}
use Rattle.flow_solve.proofs.search.visit.Goals as goal

pub go_on_from-requires-clause-steps : goal.go_on_from-requires-clause-steps
go_on_from-requires-clause-steps c = c.leaving.ensures (length c.args.hold.now) c.requires.steps
