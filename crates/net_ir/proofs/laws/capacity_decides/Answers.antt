use Rattle.net_ir.proofs.TwoReads.{two_reads_network, two_reads_orderly, two_reads_not_orderly}
use Rattle.net_ir.proofs.laws.capacity_decides.Goals as goal

pub returns-clause-network : goal.returns-clause-network
returns-clause-network c = two_reads_network

pub returns-clause-four : goal.returns-clause-four
returns-clause-four c = two_reads_orderly

pub returns-clause-one : goal.returns-clause-one
returns-clause-one c = two_reads_not_orderly
