use Rattle.std.proofs.Common.{rules}
use Rattle.ruled_fifo.proofs.Keeps.{merges}
use Rattle.ruled_fifo.proofs.ends.SendEnd.join.Goals as goal

pub absorb-requires-clause-rule : goal.absorb-requires-clause-rule
absorb-requires-clause-rule c = merges _ _ _ _ (search rules) (search rules) (search rules)
