use Rattle.std.proofs.Common.{◌≡◌, ℕ, ◌<◌, true}
use Rattle.share_shape.specs.Procedure.{is_used}
use Rattle.share_expr.specs.Working.{names_with}
use Rattle.share_expr.proofs.names.unused_number.Given as goal

abbrev pub invariant-loop-number : goal.invariant-loop-number
invariant-loop-number l = (n : ℕ) → n < l.number → is_used (names_with l.parts l.tensors) n ≡ true
