use Rattle.std.proofs.Common.{◌≤◌, ◌*◌, length}
use Rattle.std.specs.List.{All}
use Rattle.flow_solve.specs.machine.Steps.{IsStep}
use Rattle.flow_solve.proofs.steps.unordered.Given as goal

-- only steps are added, four a read
abbrev pub invariant-loop-number : goal.invariant-loop-number
invariant-loop-number l = record {
  steps : All (IsStep (length l.net.reads)) l.steps.items;
  few : length l.steps.items ≤ 4 * l.number;
}
