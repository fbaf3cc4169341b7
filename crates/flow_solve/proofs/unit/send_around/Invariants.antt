use Rattle.std.proofs.Common.{ℕ}
use Rattle.flow_solve.proofs.MoveLemmas.{Pushed}
use Rattle.flow_solve.proofs.unit.send_around.Given as goal

-- units have gone along the arcs so far
abbrev pub invariant-loop-number : goal.invariant-loop-number
invariant-loop-number l = (start : ℕ) × Pushed l.net.weights l.net.reads l.fn.hold l.fn.need l.walk start l.number-index l.hold l.need
