use Rattle.std.proofs.Common.{◌≡◌}
use Rattle.net_cycles.specs.Holdings.{held_below}
use Rattle.net_cycles.proofs.held.held.Given as goal

abbrev pub invariant-loop-queue : goal.invariant-loop-queue
invariant-loop-queue l = l.total ≡ held_below l.net l.fired l.marked l.queue
