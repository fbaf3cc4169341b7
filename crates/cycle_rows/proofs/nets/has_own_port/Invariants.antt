use Rattle.cycle_rows.specs.Soundness.{OwnPort}
use Rattle.cycle_rows.proofs.nets.has_own_port.Given as goal

abbrev pub invariant-loop-other : goal.invariant-loop-other
invariant-loop-other l = OwnPort l.queues l.number l.other
