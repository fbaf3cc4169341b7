use Rattle.std.proofs.Common.{◌≡◌, ◌≤◌, ◌++◌, drop, length, reverse, take}
use Rattle.net_shape.specs.Queues.{put_queue}
use Rattle.plan_net.proofs.ends.put_queue.Given as goal

-- the queues behind this place go before the new one or are equal to it
abbrev pub invariant-loop-place : goal.invariant-loop-place
invariant-loop-place l = record {
  within : l.place ≤ length l.held.items;
  passed : put_queue l.queue (reverse l.held.items) ≡ reverse (drop l.place l.held.items) ++ put_queue l.queue (reverse (take l.place l.held.items));
}

abbrev pub decreases-loop-place : goal.decreases-loop-place
decreases-loop-place l = l.place
