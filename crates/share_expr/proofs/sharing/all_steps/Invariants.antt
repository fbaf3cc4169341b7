use Rattle.std.proofs.Common.{◌≡◌, ℕ, ◌<◌, true, length}
use Rattle.share_shape.specs.Compounds.{sites}
use Rattle.share_shape.specs.Procedure.{is_used, shared}
use Rattle.share_shape.proofs.CallerLemmas.{IsFit}
use Rattle.share_expr.specs.Working.{names_with, with_tensors}
use Rattle.share_expr.proofs.sharing.all_steps.Given as goal

abbrev pub invariant-loop-tensors : goal.invariant-loop-tensors
invariant-loop-tensors l =
    (shared (with_tensors l.parts l.tensors.items) ≡ shared (with_tensors l.parts l.initial.tensors.items))
    × IsFit (with_tensors l.parts l.tensors.items)
    × ((n : ℕ) → n < l.from → is_used (names_with l.parts l.tensors.items) n ≡ true)

abbrev pub decreases-loop-tensors : goal.decreases-loop-tensors
decreases-loop-tensors l = length (sites (with_tensors l.parts l.tensors.items))
