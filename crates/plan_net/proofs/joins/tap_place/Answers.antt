use Rattle.plan_net.proofs.Standing.{not_missed}
use Rattle.plan_net.proofs.joins.tap_place.Goals as goal

pub returns-in-Err-clause-is : goal.returns-in-Err-clause-is
returns-in-Err-clause-is c = absurd (not_missed c.args.taps.now c.args.tap c.in-Err._place c.requires.rising c.requires.there c.in-Err.ensures.position)
