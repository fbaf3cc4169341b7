use Rattle.flow_solve.proofs.TraceLemmas.{Seen}
use Rattle.flow_solve.proofs.cycle.repeated.Given as goal

-- where the nodes so far were seen, each at one place
abbrev pub invariant-loop-i : goal.invariant-loop-i
invariant-loop-i l = Seen l.graph l.nodes l.from l.walk l.i l.seen
