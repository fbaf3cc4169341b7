use Rattle.std.proofs.Common.{◌≡◌, map, sum, take}
use Rattle.net_ir.specs.declared.network.Queue.{Queue}
use Rattle.cycle_rows.specs.Soundness.{IsSound}
use Rattle.cycle_rows.proofs.nets.is_sound.Given as goal

abbrev pub invariant-loop-number : goal.invariant-loop-number
invariant-loop-number l = record {
  sound : IsSound l.modules l.queues l.number;
  total : l.total ≡ sum (map (λ (q : Queue). q.capacity) (take l.number l.queues));
}
