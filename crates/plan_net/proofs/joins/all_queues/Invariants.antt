use Rattle.std.proofs.Common.{◌≡◌, take}
use Rattle.std.specs.List.{flat_map}
use Rattle.net_shape.specs.Modules.{modules_of}
use Rattle.net_shape.specs.Queues.{queues_from}
use Rattle.plan_net.proofs.joins.all_queues.Given as goal

abbrev pub invariant-loop-number : goal.invariant-loop-number
invariant-loop-number l = l.queues.items ≡ flat_map (queues_from l.layout) (take l.number (modules_of l.layout))
