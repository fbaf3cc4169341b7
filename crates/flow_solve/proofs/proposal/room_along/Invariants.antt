use Rattle.std.proofs.Common.{◌≤◌}
use Rattle.flow_solve.proofs.proposal.room_along.Given as goal

-- no more than are asked
abbrev pub invariant-loop-step : goal.invariant-loop-step
invariant-loop-step l = l.units ≤ l.asked
