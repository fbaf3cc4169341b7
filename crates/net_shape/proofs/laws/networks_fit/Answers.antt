use Rattle.net_shape.proofs.Networks.{is_network}
use Rattle.net_shape.proofs.Orderly.{orderly}
use Rattle.net_shape.proofs.laws.networks_fit.Goals as goal

pub returns-clause-network : goal.returns-clause-network
returns-clause-network c = is_network

pub returns-clause-orderly : goal.returns-clause-orderly
returns-clause-orderly c = orderly
