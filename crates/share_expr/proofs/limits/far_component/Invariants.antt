use Rattle.std.proofs.Common.{◌≡◌, drop, map}
use Rattle.std.specs.Prelude.{unsigned_abs}
use Rattle.soda_words.specs.Limits.{most_offset}
use Rattle.share_shape.specs.Limits.{first_past}
use Rattle.share_expr.proofs.limits.far_component.Given as goal

abbrev pub invariant-loop-d : goal.invariant-loop-d
invariant-loop-d l = first_past most_offset (map unsigned_abs (drop l.d-index l.offset)) ≡ first_past most_offset (map unsigned_abs l.offset)
