use Rattle.std.proofs.Common.{get_or, ap, rules, arith, FitsSigned, unsigned_abs, ◌≤◌, ◌+◌, ◌*◌, ◌^◌, ◌≡◌, to_z, of_z}
use Rattle.std.specs.Int.{w128}
use Rattle.std.proofs.lemmas.Int.{to_z-of_z}
use Rattle.soda_ir.proofs.Distances.{first_reach, linear-empty, outward_bound}
use Rattle.soda_ir.proofs.reads.+distance.Goals as goal

pub outward-requires-clause-factor : goal.outward-requires-clause-factor
outward-requires-clause-factor t c = omega (arith, first_reach c.args.extents.now (omega arith), c.requires)

pub returns-in-empty-clause-value : goal.returns-in-empty-clause-value
returns-in-empty-clause-value t c = linear-empty _ c.args.offset.now c.in-empty.len_below

pub returns-else-n-eq0-clause-bound : goal.returns-else-n-eq0-clause-bound
returns-else-n-eq0-clause-bound t c =
    let fits : FitsSigned w128 c.outward.result = search rules in
    let rest : FitsSigned w128 c.distance.result = search rules in
    let same : to_z w128 (of_z w128 c.distance.result) ≡ c.distance.result = to_z-of_z w128 c.distance.result rest in
    let far : unsigned_abs c.outward.result ≤ 2 ^ 63 + get_or c.args.extents.now 0 0 * unsigned_abs c.distance.result = omega (arith, c.outward.ensures.bound, ap (λ z. get_or c.args.extents.now 0 0 * unsigned_abs z) same) in
    omega (arith, ap unsigned_abs (to_z-of_z w128 c.outward.result fits), outward_bound c.args.extents.now c.outward.result c.distance.result (omega arith) far c.distance.ensures.bound)
