use Rattle.ruled_fifo.proofs.Keeps.{misses}
use Rattle.ruled_fifo.proofs.steps.miss.Goals as goal

pub another-requires-clause-rule : goal.another-requires-clause-rule
another-requires-clause-rule c = misses _ _
