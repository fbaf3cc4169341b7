use Rattle.std.proofs.Common.{◌+◌, ◌≤◌, length, subst}
use Rattle.net_ir.specs.Nets.{Net, entrances, exits}
use Rattle.net_ir.proofs.Ends.{exits_known, length-ends_among}
use Rattle.net_ir.proofs.network.Network.exits.Goals as goal

pub returns-clause-known : goal.returns-clause-known
returns-clause-known c = exits_known c.args.self.now.queues c.args.module (length c.args.self.now.queues)

pub returns-clause-few : goal.returns-clause-few
returns-clause-few c =
    subst (λ (net : Net). length (entrances net c.args.module) + length (exits net c.args.module) ≤ length net.queues) c.self.view_is
    (length-ends_among c.self.inside.queues.items c.args.module (length c.self.inside.queues.items) c.self.invariant.network.ends)
