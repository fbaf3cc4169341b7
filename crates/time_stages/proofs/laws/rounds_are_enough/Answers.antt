use Rattle.std.proofs.Common.{length}
use Rattle.soda_ir.specs.Counts.{does_read}
use Rattle.time_stages.proofs.Rounds.{placed_settled, reached_settled}
use Rattle.time_stages.proofs.laws.rounds_are_enough.Goals as goal

pub returns : goal.returns
returns c = record {
  placed = placed_settled;
  needed = λ p wanted x l. reached_settled (does_read p) (length p.tensors) wanted x l;
}
