use Rattle.std.proofs.Common.{◌≡◌, map}
use Rattle.soda_ir.specs.Program.{plain_tensor}
use Rattle.share_shape.specs.machine.Search.{is_twice}
use Rattle.share_shape.proofs.Passing.{passing_from}
use Rattle.share_shape.proofs.sites.plain_site.Given as goal

abbrev pub invariant-loop-i : goal.invariant-loop-i
invariant-loop-i l = passing_from (is_twice (map plain_tensor l.tensors)) l.tensors l.i ≡ passing_from (is_twice (map plain_tensor l.tensors)) l.tensors 0
