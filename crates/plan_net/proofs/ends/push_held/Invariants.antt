use Rattle.std.proofs.Common.{◌≡◌, ◌++◌, reverse, take}
use Rattle.plan_net.proofs.ends.push_held.Given as goal

abbrev pub invariant-loop-passed : goal.invariant-loop-passed
invariant-loop-passed l = l.queues.items ≡ l.initial.queues.items ++ take l.passed (reverse l.held)
