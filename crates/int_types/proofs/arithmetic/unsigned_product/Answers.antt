use Rattle.std.proofs.Common.{rules, ◌≡◌, ℤ, pos, ◌*ℤ◌, ◌*◌, FitsSigned, unsigned_abs, ◌∙◌, ap}
use Rattle.std.specs.Int.{w128}
use Rattle.std.proofs.lemmas.Int.{to_z-of_z}
use Rattle.int_types.specs.Ranges.{IsWrapOf}
use Rattle.int_types.proofs.Bounds.{unsigned_is}
use Rattle.int_types.proofs.arithmetic.unsigned_product.Goals as goal

pub returns : goal.returns
returns c =
    let fits : FitsSigned w128 c.low_bits_of_product.result = search rules in
    let x : c.args.x ≡ pos (unsigned_abs c.args.x) = (unsigned_is c.args.ty c.args.x c.requires.signed c.requires.left).0 in
    let y : c.args.y ≡ pos (unsigned_abs c.args.y) = (unsigned_is c.args.ty c.args.y c.requires.signed c.requires.right).0 in
    let e : c.args.x *ℤ c.args.y ≡ pos (unsigned_abs c.args.x * unsigned_abs c.args.y) = ap (λ (v : ℤ). v *ℤ c.args.y) x ∙ ap (λ (v : ℤ). pos (unsigned_abs c.args.x) *ℤ v) y in
    let h : IsWrapOf c.args.ty (pos (unsigned_abs c.args.x * unsigned_abs c.args.y)) c.low_bits_of_product.result = simp (to_z-of_z w128 c.args.x c.ranges.x, to_z-of_z w128 c.args.y c.ranges.y) at c.low_bits_of_product.ensures in
    rw (to_z-of_z w128 c.low_bits_of_product.result fits) (rw e h)
