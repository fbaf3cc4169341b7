use Rattle.std.proofs.Common.{◌≡◌, subst, sym}
use Rattle.net_ir.specs.Nets.{Net, IsNetwork}
use Rattle.net_ir.specs.Worked.{two_reads}
use Rattle.plan_rows.proofs.TwoReads.{two_reads_from}
use Rattle.plan_rows.proofs.tests.networks.two_reads.Goals as goal

pub new-requires-clause-network : goal.new-requires-clause-network
new-requires-clause-network c =
    let capacity = c.args.capacity in
    let modules = c.in_ok-modules.modules.items in
    let queues = c.in_ok-queues.queues.items in
    let same : ◌≡◌ {A = Net} (record { modules = modules; queues = queues }) (two_reads capacity) =
    two_reads_from capacity modules queues c.queue.result c.queue-2.result c.queue-3.result c.queue-4.result c.queue-5.result
    c.in_ok-modules.ensures.items c.in_ok-queues.ensures.items
    c.queue.ensures c.queue-2.ensures c.queue-3.ensures c.queue-4.ensures c.queue-5.ensures in
    subst IsNetwork (sym same) (c.capacity_decides.ensures.network capacity)
