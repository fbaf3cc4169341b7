use Rattle.ruled_fifo.proofs.Keeps.{takes}
use Rattle.ruled_fifo.proofs.ends.TakeEnd.pop.Goals as goal

pub pop_as-requires-clause-rule : goal.pop_as-requires-clause-rule
pop_as-requires-clause-rule g c = (takes _ _ c.args.self.now.may_take.0 c.args.self.now.may_take.1, λ _ _ _ _. tt)
