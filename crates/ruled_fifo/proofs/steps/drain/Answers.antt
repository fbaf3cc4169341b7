use Rattle.ruled_fifo.proofs.Keeps.{drains, learns_rest}
use Rattle.ruled_fifo.proofs.steps.drain.Goals as goal

pub pop_as-requires-clause-rule : goal.pop_as-requires-clause-rule
pop_as-requires-clause-rule g c = (drains _ _ c.requires.both.0 c.requires.both.1, learns_rest _ _ c.requires.both.0 c.requires.both.1)
