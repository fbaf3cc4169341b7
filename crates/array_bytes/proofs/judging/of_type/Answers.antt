use Rattle.std.proofs.Common.{◌≡◌, Bool, true, false, refl, sym, subst, ◌∙◌, ℤ}
use Rattle.std.specs.Int.{w128}
use Rattle.std.proofs.lemmas.Int.{to_z-of_z}
use Rattle.int_types.specs.Ranges.{InRange}
use Rattle.array_bytes.proofs.Tests.{of_in_range, of_not_in_range}
use Rattle.array_bytes.proofs.judging.of_type.Goals as goal

pub returns-then-in_range-clause-judged : goal.returns-then-in_range-clause-judged
returns-then-in_range-clause-judged c =
    let same = to_z-of_z w128 c.args.value c.ranges.value in
    (same, of_in_range c.args.ty c.args.value (subst (λ (v : ℤ). InRange c.args.ty v) same (c.in_range.ensures.0 c.if-in_range.true)))

differ : (b : Bool) → b ≡ false → b ≡ true → ⊥
differ b p q = let e : false ≡ true = sym p ∙ q in cc

pub returns-else-in_range-clause-judged : goal.returns-else-in_range-clause-judged
returns-else-in_range-clause-judged c =
    let same = to_z-of_z w128 c.args.value c.ranges.value in
    (refl, of_not_in_range c.args.ty c.args.value (λ r. differ c.in_range.result c.if-in_range.false (c.in_range.ensures.1 (subst (λ (v : ℤ). InRange c.args.ty v) (sym same) r))))
