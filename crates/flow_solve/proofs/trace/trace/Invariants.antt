use Rattle.std.proofs.Common.{length, vec_len}
use Rattle.flow_solve.specs.machine.Rounds.{at}
use Rattle.flow_solve.proofs.TraceLemmas.{Traces}
use Rattle.flow_solve.proofs.trace.trace.Given as goal

-- the walk so far, from the end back
abbrev pub invariant-loop-arcs : goal.invariant-loop-arcs
invariant-loop-arcs l = Traces l.graph l.nodes l.last.items l.walk.items l.from l.to (at l.fn.rounds.lengths.items l.to) (length l.fn.rounds.last.items)

abbrev pub decreases-loop-arcs : goal.decreases-loop-arcs
decreases-loop-arcs l = vec_len l.last
