use Rattle.std.proofs.Common.{◌≡◌, ◌≤◌, ◌-◌, ◌++◌, length, take, drop}
use Rattle.net_ir.specs.Nets.{put_by_port}
use Rattle.net_ir.proofs.network.put_by_port.Given as goal

abbrev pub invariant-loop-place : goal.invariant-loop-place
invariant-loop-place l =
    (l.place ≤ length l.ports.items) × (put_by_port l.queues l.queue l.ports.items
    ≡ take l.place l.ports.items ++ put_by_port l.queues l.queue (drop l.place l.ports.items))

abbrev pub decreases-loop-place : goal.decreases-loop-place
decreases-loop-place l = length l.ports.items - l.place
