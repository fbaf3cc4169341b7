use Rattle.std.proofs.Common.{ℕ, ◌≡◌, ◌<◌, ◌^◌, ℤ, pos, neg_ℤ, ◌*ℤ◌, ◌≤ℤ◌, ap, sym, ◌∙◌, subst, arith, w64}
use Rattle.std.specs.Int.{w128}
use mir.Val.{SFits, to_z, of_z}
use Rattle.std.proofs.lemmas.Int.{ints, to_z-of_z}
use Rattle.delay_net.specs.Limits.{most_offset}
use Rattle.delay_net.proofs.Steps.{product_within}
use Rattle.delay_net.proofs.certificate.product.Goals as goal

-- the product as the code computes it
abbrev computed : ℕ → ℤ → ℤ
computed n z = to_z w128 n *ℤ to_z w128 (of_z w128 (to_z w64 (of_z w64 z)))

computed_is : (n : ℕ) (z : ℤ) → n < 2 ^ 32 → SFits w64 z → computed n z ≡ pos n *ℤ z
computed_is n z small fits =
    let number : to_z w128 n ≡ pos n = omega (arith, ints) in
    let offset : to_z w128 (of_z w128 (to_z w64 (of_z w64 z))) ≡ z = omega (arith, ints) in
    ap (λ a. a *ℤ to_z w128 (of_z w128 (to_z w64 (of_z w64 z)))) number ∙ ap (λ b. pos n *ℤ b) offset

computed_fits : (n : ℕ) (z : ℤ) → n < 2 ^ 32 → SFits w64 z → neg_ℤ (pos most_offset) ≤ℤ z → z ≤ℤ pos most_offset → SFits w128 (computed n z)
computed_fits n z small fits from to =
    let within = product_within n z small from to in
    let product : SFits w128 (pos n *ℤ z) = grind (arith, ints) in
    subst (SFits w128) (sym (computed_is n z small fits)) product

pub overflow_mul-result : goal.overflow_mul-result
overflow_mul-result c = computed_fits c.args.number c.args.offset (omega arith) c.ranges.offset c.requires.from c.requires.to

told : (n : ℕ) (z : ℤ) → n < 2 ^ 32 → SFits w64 z → neg_ℤ (pos most_offset) ≤ℤ z → z ≤ℤ pos most_offset → to_z w128 (of_z w128 (computed n z)) ≡ pos n *ℤ z
told n z small fits from to =
    to_z-of_z w128 (computed n z) (computed_fits n z small fits from to) ∙ computed_is n z small fits

pub returns : goal.returns
returns c =
    let n = c.args.number in
    let z = c.args.offset in
    let is = told n z (omega arith) c.ranges.offset c.requires.from c.requires.to in
    let within = product_within n z (omega arith) c.requires.from c.requires.to in
    record {
      value = is;
      low = subst (λ x. neg_ℤ (pos (2 ^ 74)) ≤ℤ x) (sym is) within.0;
      high = subst (λ x. x ≤ℤ pos (2 ^ 74)) (sym is) within.1;
    }
