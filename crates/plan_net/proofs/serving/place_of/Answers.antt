use Rattle.plan_net.proofs.Standing.{not_missed}
use Rattle.plan_net.proofs.serving.place_of.Goals as goal

pub returns-in-Err-clause-none : goal.returns-in-Err-clause-none
returns-in-Err-clause-none c = λ e has. not_missed c.args.taps.now c.args.tap c.in-Err._place c.requires has c.in-Err.ensures.position
