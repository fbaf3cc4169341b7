use Rattle.std.proofs.Common.{◌≤◌, ◌*◌, ◌^◌, ◌*ℤ◌, unsigned_abs, ◌∙◌, ap, arith, mul-le-mul_left, FitsSigned, to_z, of_z}
use Rattle.std.specs.Int.{w128}
use Rattle.std.proofs.lemmas.Int.{ints, to_z-of_z, unsigned_abs-mul}
use Rattle.soda_ir.proofs.reads.product.Goals as goal

pub returns : goal.returns
returns c =
    let n = c.args.n in
    let rest = c.args.rest in
    let m : unsigned_abs n * unsigned_abs rest ≤ unsigned_abs n * 2 ^ 90 = mul-le-mul_left (unsigned_abs n) c.requires.small in
    let fits : FitsSigned w128 (n *ℤ rest) = omega (arith, ints, unsigned_abs-mul n rest, m, c.requires.factor) in
    ap (λ v. to_z w128 (of_z w128 (v *ℤ to_z w128 (of_z w128 rest)))) (to_z-of_z w128 n c.ranges.n)
    ∙ ap (λ v. to_z w128 (of_z w128 (n *ℤ v))) (to_z-of_z w128 rest c.ranges.rest)
    ∙ to_z-of_z w128 (n *ℤ rest) fits
