use Rattle.std.proofs.Common.{◌≡◌, ◌≤◌, length}
use Rattle.std.specs.List.{All}
use Rattle.flow_solve.proofs.steps.ordered.Given as goal

-- places among the steps so far
abbrev pub invariant-loop-node : goal.invariant-loop-node
invariant-loop-node l = record {
  nodes : length l.begins.items ≡ l.node-counter;
  within : All (λ begin. begin ≤ length l.steps.items) l.begins.items;
}
