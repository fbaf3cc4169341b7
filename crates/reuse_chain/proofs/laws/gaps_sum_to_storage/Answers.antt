use Rattle.reuse_chain.proofs.OfLane.{gaps_of_lane}
use Rattle.reuse_chain.proofs.OfAllLanes.{gaps_of_all_lanes}
use Rattle.reuse_chain.proofs.laws.gaps_sum_to_storage.Goals as goal

pub returns-clause-lane : goal.returns-clause-lane
returns-clause-lane c = gaps_of_lane

pub returns-clause-all : goal.returns-clause-all
returns-clause-all c = gaps_of_all_lanes
