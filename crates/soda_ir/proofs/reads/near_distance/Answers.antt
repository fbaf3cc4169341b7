use Rattle.std.proofs.Common.{FitsSigned, ◌∙◌, ap, arith, rules, to_z, of_z}
use Rattle.std.specs.Int.{w64, w128}
use Rattle.std.proofs.lemmas.Int.{ints, to_z-of_z}
use Rattle.soda_ir.proofs.Distances.{distance_bound}
use Rattle.soda_ir.proofs.reads.near_distance.Goals as goal

near : (c : goal.After-distance) → FitsSigned w64 c.distance.result
near c =
    let b = distance_bound c.args.extents.now c.args.offset.now c.distance.result c.requires.near c.distance.ensures.value in
    omega (arith, ints, b, c.requires.small)

pub overflow_cast-result : goal.overflow_cast-result
overflow_cast-result c =
    let fits : FitsSigned w128 c.distance.result = search rules in
    rw (to_z-of_z w128 c.distance.result fits) (near c)

pub returns : goal.returns
returns c =
    let fits : FitsSigned w128 c.distance.result = search rules in
    ap (λ v. to_z w64 (of_z w64 v)) (to_z-of_z w128 c.distance.result fits) ∙ to_z-of_z w64 c.distance.result (near c) ∙ c.distance.ensures.value
