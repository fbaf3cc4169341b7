use Rattle.net_ir.proofs.Listing.{listed_none}
use Rattle.net_ir.proofs.network.ends_of.Goals as goal

pub loop-number-init : goal.loop-number-init
loop-number-init c = listed_none c.args.queues.now c.args.modules c.in_ok-ends.ends.items c.in_ok-ends.ensures.0 c.in_ok-ends.ensures.1
