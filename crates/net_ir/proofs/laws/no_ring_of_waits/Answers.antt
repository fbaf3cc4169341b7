use Rattle.net_ir.proofs.Rings.{no_ring, goes_on, waits_is}
use Rattle.net_ir.proofs.laws.no_ring_of_waits.Goals as goal

pub returns-clause-no_ring : goal.returns-clause-no_ring
returns-clause-no_ring c = λ net firings state network orderly lawful. no_ring net firings network orderly state lawful

pub returns-clause-goes_on : goal.returns-clause-goes_on
returns-clause-goes_on c = λ net firings state network orderly lawful. goes_on net firings network orderly state lawful

pub returns-clause-falls : goal.returns-clause-falls
returns-clause-falls c =
    λ net firings state network orderly lawful m n e. (waits_is net firings network orderly state lawful m n e).1
