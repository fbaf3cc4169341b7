use Rattle.net_shape.specs.Queues.{network_of}
use Rattle.net_shape.proofs.Networks.{is_network}
use Rattle.net_shape.proofs.Orderly.{orderly}
use Rattle.net_shape.proofs.laws.networks_never_lock_up.Goals as goal

pub returns-clause-no_ring : goal.returns-clause-no_ring
returns-clause-no_ring c = λ p firings state plan lawful.
    c.no_ring_of_waits.ensures.no_ring (network_of p) firings state (is_network p plan) (orderly p plan) lawful

pub returns-clause-goes_on : goal.returns-clause-goes_on
returns-clause-goes_on c = λ p firings state plan lawful.
    c.no_ring_of_waits.ensures.goes_on (network_of p) firings state (is_network p plan) (orderly p plan) lawful
