use Rattle.net_cycles.proofs.BetweenFirings.{fires_exactly}
use Rattle.net_cycles.proofs.laws.fires_exactly.Goals as goal

pub returns : goal.returns
returns c = fires_exactly
