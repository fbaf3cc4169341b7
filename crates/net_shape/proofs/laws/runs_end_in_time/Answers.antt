use Rattle.net_shape.specs.Queues.{network_of}
use Rattle.net_shape.proofs.Networks.{is_network}
use Rattle.net_shape.proofs.Orderly.{ageless, orderly}
use Rattle.net_shape.proofs.laws.runs_end_in_time.Goals as goal

pub returns-clause-ends : goal.returns-clause-ends
returns-clause-ends c = λ p firings stalls plan.
    c.cycles_end_in_time.ensures.ends (network_of p) firings stalls (is_network p plan) (orderly p plan)

pub returns-clause-exact : goal.returns-clause-exact
returns-clause-exact c = λ p firings stalls plan some free.
    let m = ageless p plan some in
    (c.cycles_end_in_time.ensures.ends (network_of p) firings stalls (is_network p plan) (orderly p plan)).exact m.0 m.1 m.2 free
