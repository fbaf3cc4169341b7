use Rattle.net_ir.proofs.ByPort.{stand_by_port, stand_in_order}
use Rattle.net_ir.proofs.laws.queues_stand_in_order.Goals as goal

pub returns-clause-to : goal.returns-clause-to
returns-clause-to c = stand_by_port

pub returns-clause-from : goal.returns-clause-from
returns-clause-from c = stand_in_order
