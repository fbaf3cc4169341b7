use Rattle.reuse_chain.proofs.OfLane.{taps_there, taps_one}
use Rattle.reuse_chain.proofs.laws.taps_are_unique.Goals as goal

pub returns-clause-there : goal.returns-clause-there
returns-clause-there c = taps_there

pub returns-clause-one : goal.returns-clause-one
returns-clause-one c = taps_one
