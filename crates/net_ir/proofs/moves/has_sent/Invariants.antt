use Rattle.std.proofs.Common.{◌≡◌, nat_eq, take, drop}
use Rattle.std.specs.List.{list_any}
use Rattle.net_ir.proofs.moves.has_sent.Given as goal

abbrev pub invariant-loop-other : goal.invariant-loop-other
invariant-loop-other l =
    list_any (nat_eq l.queue) (take l.initial.left l.sends) ≡ list_any (nat_eq l.queue) (take l.left (drop l.other-index l.sends))
