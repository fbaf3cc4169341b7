use Rattle.std.proofs.Common.{◌≡◌, nat_eq, unwrap_or}
use Rattle.std.specs.HashMap.{get}
use Rattle.share_shape.specs.machine.Marks.{is_repeated}
use Rattle.share_shape.proofs.Passing.{passing_from}
use Rattle.share_shape.proofs.sites.first_candidate.Given as goal

abbrev pub invariant-loop-i : goal.invariant-loop-i
invariant-loop-i l =
    passing_from (is_repeated (λ q. unwrap_or (get nat_eq l.counts q) 0)) l.tensors l.i ≡ passing_from (is_repeated (λ q. unwrap_or (get nat_eq l.counts q) 0)) l.tensors 0
