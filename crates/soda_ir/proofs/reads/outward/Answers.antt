use Rattle.std.proofs.Common.{◌≡◌, ◌+◌, ◌*◌, ◌^◌, ◌≤◌, ℤ, ◌+ℤ◌, ◌*ℤ◌, pos, unsigned_abs, ◌∙◌, ap, arith, rules, mul-le-mul_left, FitsSigned, to_z, of_z}
use Rattle.std.specs.Int.{w64, w128}
use Rattle.std.proofs.lemmas.Int.{ints, to_z-of_z, to_z_pos, unsigned_abs-mul}
use Rattle.soda_ir.proofs.reads.outward.Goals as goal

pub returns-clause-bound : goal.returns-clause-bound
returns-clause-bound c =
    let d = c.args.d in
    let n = c.args.n in
    let rest = c.args.rest in
    let first : to_z w128 (of_z w128 (to_z w64 (of_z w64 d))) ≡ d = ap (λ v. to_z w128 (of_z w128 v)) (to_z-of_z w64 d c.ranges.d) ∙ to_z-of_z w128 d (omega (arith, ints, c.ranges.d)) in
    let fits : FitsSigned w128 c.product-along.result = search rules in
    let factor : to_z w128 n ≡ pos n = to_z_pos w128 n (omega (arith, c.requires.factor)) in
    let along : c.product-along.result ≡ pos n *ℤ rest = c.product-along.ensures ∙ ap (λ v. v *ℤ to_z w128 (of_z w128 rest)) factor ∙ ap (λ v. pos n *ℤ v) (to_z-of_z w128 rest c.ranges.rest) in
    let sum : ℤ = to_z w128 (of_z w128 (to_z w64 (of_z w64 d))) +ℤ to_z w128 (of_z w128 c.product-along.result) in
    let is : sum ≡ d +ℤ (pos n *ℤ rest) = ap (λ v. v +ℤ to_z w128 (of_z w128 c.product-along.result)) first ∙ ap (λ v. d +ℤ v) (to_z-of_z w128 c.product-along.result fits ∙ along) in
    let size : unsigned_abs (pos n *ℤ rest) ≡ n * unsigned_abs rest = unsigned_abs-mul (pos n) rest in
    let most : n * unsigned_abs rest ≤ n * 2 ^ 90 = mul-le-mul_left n c.requires.small in
    let near : unsigned_abs d ≤ 2 ^ 63 = omega (arith, ints, c.ranges.d) in
    let far : unsigned_abs sum ≤ 2 ^ 63 + n * unsigned_abs rest = omega (arith, ints, ap unsigned_abs is, size, near) in
    let whole : FitsSigned w128 sum = omega (arith, ints, far, most, c.requires.factor) in
    omega (arith, ap unsigned_abs (to_z-of_z w128 sum whole), far)
