use Rattle.flow_solve.proofs.PartLemmas.{IsPart}
use Rattle.flow_solve.proofs.round.take_arcs.Given as goal

-- the round so far
abbrev pub invariant-loop-k : goal.invariant-loop-k
invariant-loop-k l = IsPart l.graph l.k l.nodes l.old l.last l.lengths l.raised
