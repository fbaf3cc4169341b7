use Rattle.std.proofs.Common.{rules}
use Rattle.ruled_fifo.proofs.Keeps.{begins, parts_ends}
use Rattle.ruled_fifo.proofs.make.fifo.Goals as goal

pub ruled-requires-clause-rule : goal.ruled-requires-clause-rule
ruled-requires-clause-rule c = begins

pub another-other-requires-clause-rule : goal.another-other-requires-clause-rule
another-other-requires-clause-rule c = parts_ends _ _ (search rules) (search rules) (search rules)
