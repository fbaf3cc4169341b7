use Rattle.time_stages.proofs.Sources.{own_margins, own_turn}
use Rattle.time_stages.proofs.laws.staged_tensors_keep_margins.Goals as goal

pub returns : goal.returns
returns c = record { margins = own_margins; turns = own_turn }
