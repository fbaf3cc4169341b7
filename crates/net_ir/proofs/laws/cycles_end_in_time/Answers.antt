use Rattle.net_ir.proofs.Bounds.{ends_in_time, least_progress}
use Rattle.net_ir.proofs.laws.cycles_end_in_time.Goals as goal

pub returns-clause-least : goal.returns-clause-least
returns-clause-least c =
    λ net firings stalled state network orderly lawful between free. least_progress net firings network orderly stalled state lawful between free

pub returns-clause-ends : goal.returns-clause-ends
returns-clause-ends c = λ net firings stalls network orderly. ends_in_time net firings network orderly stalls
