use Rattle.std.proofs.Common.{rules, arith, ◌≡◌, ℤ, pos, ◌^◌, ◌-ℤ◌, FitsSigned, to_z, of_z, sym, ◌∙◌, ap, subst}
use Rattle.std.specs.Int.{w128, int_rem_euclid}
use Rattle.std.proofs.lemmas.Int.{ints, to_z-of_z}
use Rattle.int_types.specs.Ranges.{IsWrapOf}
use Rattle.int_types.proofs.Wrapped.{low_wrap, high_wrap}
use Rattle.int_types.proofs.range.wrap_by_remainder.Goals as goal

-- what the code's remainder is
rest_of : (v size rest : ℤ) (m : ℤ) → FitsSigned w128 v → FitsSigned w128 size → size ≡ m → rest ≡ int_rem_euclid (to_z w128 (of_z w128 v)) (to_z w128 (of_z w128 size)) → rest ≡ int_rem_euclid v m
rest_of v size rest m fv fs e h =
    h ∙ ap (λ x. int_rem_euclid x (to_z w128 (of_z w128 size))) (to_z-of_z w128 v fv) ∙ ap (λ x. int_rem_euclid v x) (to_z-of_z w128 size fs ∙ e)

pub returns-then-rest-past : goal.returns-then-rest-past
returns-then-rest-past c =
    let fits : FitsSigned w128 c.rem_euclid-rest.result = search rules in
    let size : FitsSigned w128 c.size-size.result = search rules in
    let e : c.rem_euclid-rest.result ≡ int_rem_euclid c.args.v (pos (2 ^ c.args.ty.bits)) = rest_of _ _ _ _ c.ranges.v size c.size-size.ensures.value c.rem_euclid-rest.ensures.value in
    rw (to_z-of_z w128 c.rem_euclid-rest.result fits) (low_wrap c.args.ty c.args.v c.rem_euclid-rest.result e (omega (arith, ints)) (omega (arith, ints)))

pub returns-else-rest-past : goal.returns-else-rest-past
returns-else-rest-past c =
    let size : FitsSigned w128 c.size-size.result = search rules in
    let e : c.rem_euclid-rest.result ≡ int_rem_euclid c.args.v (pos (2 ^ c.args.ty.bits)) = rest_of _ _ _ _ c.ranges.v size c.size-size.ensures.value c.rem_euclid-rest.ensures.value in
    let f : to_z w128 (of_z w128 (to_z w128 (of_z w128 c.rem_euclid-rest.result) -ℤ to_z w128 (of_z w128 c.size-size.result))) ≡ c.rem_euclid-rest.result -ℤ pos (2 ^ c.args.ty.bits) = omega (arith, ints) in
    subst (λ (x : ℤ). IsWrapOf c.args.ty c.args.v x) (sym f) (high_wrap c.args.ty c.args.v c.rem_euclid-rest.result (c.size-size.ensures.valid.some) e (omega (arith, ints)) (omega (arith, ints)))
