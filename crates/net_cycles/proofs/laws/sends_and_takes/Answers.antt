use Rattle.net_cycles.proofs.BetweenFirings.{sent_is, taken_is}
use Rattle.net_cycles.proofs.laws.sends_and_takes.Goals as goal

pub returns-clause-sends : goal.returns-clause-sends
returns-clause-sends c = sent_is

pub returns-clause-takes : goal.returns-clause-takes
returns-clause-takes c = taken_is
