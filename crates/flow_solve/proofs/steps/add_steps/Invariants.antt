use Rattle.std.proofs.Common.{◌≡◌, ℕ, ◌+◌, length}
use Rattle.std.specs.List.{All}
use Rattle.flow_solve.specs.machine.Steps.{IsStep}
use Rattle.flow_solve.proofs.steps.add_steps.Given as goal

-- only steps are added
abbrev pub invariant-loop-step : goal.invariant-loop-step
invariant-loop-step l = record {
  steps : (reads : ℕ) → All (IsStep reads) l.fn.steps.items → All (IsStep reads) l.four → All (IsStep reads) l.steps.items;
  count : length l.steps.items ≡ length l.fn.steps.items + l.step-index;
}
