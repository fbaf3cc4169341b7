use Rattle.flow_solve.proofs.SearchLemmas.{IsSearch}
use Rattle.flow_solve.proofs.walks.longest.Given as goal

-- as many rounds as the counter says are done
abbrev pub invariant-loop : goal.invariant-loop
invariant-loop l = IsSearch l.arcs l.nodes l.counter l.lengths.items l.last.items l.raised
