use Rattle.std.proofs.Common.{ℕ, ◌<◌}
use Rattle.std.specs.List.{All}
use Rattle.flow_solve.specs.Limits.{most_nodes}
use Rattle.flow_solve.specs.machine.Steps.{IsStep, AreMarks}
use Rattle.flow_solve.proofs.search.walk_back.Given as goal

-- only steps are taken, and the node is one
abbrev pub invariant-loop : goal.invariant-loop
invariant-loop l = record {
  node : l.node < most_nodes;
  steps : (reads : ℕ) → AreMarks reads l.marks → All (IsStep reads) l.walk.items;
}
