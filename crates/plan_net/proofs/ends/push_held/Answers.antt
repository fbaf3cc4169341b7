use Rattle.std.proofs.Common.{refl}
use Rattle.plan_net.proofs.Steps.{handed_more}
use Rattle.plan_net.proofs.ends.push_held.Goals as goal

pub loop-passed-preserved : goal.loop-passed-preserved
loop-passed-preserved c =
    handed_more c.args.queues.now.items c.loop-passed.queues.items c.push.new.self.items c.args.held.now c.loop-passed.passed _ (record { from = 0; to = 0; port = 0; capacity = 0; lead = 0 }) c.loop-passed-test.true refl c.loop-passed.invariant c.in_ok-push.ensures.items
