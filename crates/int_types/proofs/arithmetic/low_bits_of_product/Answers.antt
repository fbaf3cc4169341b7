use Rattle.std.proofs.Common.{rules, arith, ◌≡◌, pos, ◌*◌, ◌%◌, ◌^◌, ◌<◌, unsigned_abs, to_z, of_z, ◌∙◌, ap, FitsSigned}
use Rattle.std.specs.Int.{w128}
use Rattle.std.proofs.lemmas.Int.{ints, to_z_pos, to_z-of_z}
use Rattle.int_types.specs.Ranges.{IsWrapOf}
use Rattle.int_types.proofs.Wrapped.{unsigned_wrap, past_64}
use Rattle.int_types.proofs.arithmetic.low_bits_of_product.Goals as goal

pub returns : goal.returns
returns c =
    let fits : FitsSigned w128 c.size.result = search rules in
    let e : unsigned_abs (to_z w128 (of_z w128 c.size.result)) ≡ 2 ^ c.args.ty.bits = ap unsigned_abs (to_z-of_z w128 c.size.result fits ∙ c.size.ensures.value) in
    let w : IsWrapOf c.args.ty (pos (c.args.x * c.args.y)) (pos (c.args.x * c.args.y % 2 ^ c.args.ty.bits)) = unsigned_wrap c.args.ty c.args.x c.args.y c.requires.signed in
    let small : c.args.x * c.args.y % 2 ^ c.args.ty.bits < 2 ^ 127 = omega (arith, ints, w.in_range.below, past_64 c.args.ty c.size.ensures.valid) in
    rw e (rw (to_z_pos w128 (c.args.x * c.args.y % 2 ^ c.args.ty.bits) small) w)
