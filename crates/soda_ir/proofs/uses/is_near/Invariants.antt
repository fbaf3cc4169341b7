use Rattle.std.proofs.Common.{◌≡◌, true, take}
use Rattle.soda_ir.specs.Uses.{is_near}
use Rattle.soda_ir.proofs.uses.is_near.Given as goal

abbrev pub invariant-loop-d : goal.invariant-loop-d
invariant-loop-d l = is_near (take l.d-index l.offset) ≡ true
