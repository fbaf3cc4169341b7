use Rattle.std.proofs.Common.{◌≡◌, ◌-◌, drop, length, map, reverse}
use Rattle.net_shape.specs.Queues.{by_receiver, serving}
use Rattle.plan_net.proofs.joins.serve_all.Given as goal

abbrev pub invariant-loop-passed : goal.invariant-loop-passed
invariant-loop-passed l =
    reverse l.held.items ≡ by_receiver (map (serving l.layout l.lane.0 l.lane.1 l.tap) (drop (length l.numbers - l.passed) l.numbers))
