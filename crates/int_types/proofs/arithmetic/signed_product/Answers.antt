use Rattle.std.proofs.Common.{◌^◌, ◌≤◌, lit<, unsigned_abs, FitsSigned, ◌*ℤ◌}
use Rattle.std.specs.Int.{w128}
use Rattle.std.proofs.lemmas.Int.{fits_signed_mul, to_z-of_z}
use Rattle.int_types.proofs.Bounds.{signed_bound}
use Rattle.int_types.proofs.arithmetic.signed_product.Goals as goal

pub overflow_mul-result : goal.overflow_mul-result
overflow_mul-result c =
    let x : unsigned_abs c.args.x ≤ 2 ^ 63 = signed_bound c.args.ty c.args.x c.bits-bits.ensures.valid c.requires.signed c.requires.left in
    let y : unsigned_abs c.args.y ≤ 2 ^ 63 = signed_bound c.args.ty c.args.y c.bits-bits.ensures.valid c.requires.signed c.requires.right in
    rw (to_z-of_z w128 c.args.x c.ranges.x) (rw (to_z-of_z w128 c.args.y c.ranges.y) (fits_signed_mul w128 c.args.x c.args.y (2 ^ 63) (2 ^ 63) x y (lit< tt)))

pub returns : goal.returns
returns c =
    let x : unsigned_abs c.args.x ≤ 2 ^ 63 = signed_bound c.args.ty c.args.x c.bits-bits.ensures.valid c.requires.signed c.requires.left in
    let y : unsigned_abs c.args.y ≤ 2 ^ 63 = signed_bound c.args.ty c.args.y c.bits-bits.ensures.valid c.requires.signed c.requires.right in
    let fits : FitsSigned w128 (c.args.x *ℤ c.args.y) = fits_signed_mul w128 c.args.x c.args.y (2 ^ 63) (2 ^ 63) x y (lit< tt) in
    rw (to_z-of_z w128 c.args.x c.ranges.x) (rw (to_z-of_z w128 c.args.y c.ranges.y) (to_z-of_z w128 (c.args.x *ℤ c.args.y) fits))
