use Rattle.std.proofs.Common.{refl}
use Rattle.bursts.proofs.WriterSteps.{new_put}
use Rattle.bursts.proofs.writer.CellWriter.new.Goals as goal

pub returns-clause-none : goal.returns-clause-none
returns-clause-none c = new_put _ refl refl c.in_ok-buffer.ensures.len c.in_ok-buffer.ensures.items
