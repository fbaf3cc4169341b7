use Rattle.ruled_fifo.proofs.Keeps.{learns_rest}
use Rattle.ruled_fifo.proofs.steps.count.Goals as goal

pub len_as-requires-clause-rule : goal.len_as-requires-clause-rule
len_as-requires-clause-rule g c = learns_rest _ _ c.requires.both.0 c.requires.both.1
