use Rattle.std.proofs.Common.{arith, ap, ◌∙◌, ◌≡◌, ℕ, zero, suc, ◌-◌, ◌<◌, subst, List, [], ◌∷◌, ◌++◌, length, take, drop, replicate, slice_index_or, Option, Some, None, IfSome, ℤ, pos, rules}
use Rattle.std.specs.Borrow.{Bor}
use Rattle.std.proofs.Math.Seq.{take-length}
use Rattle.soda_words.specs.IntType.{IntType}
use Rattle.int_types.specs.Ranges.{InRange}
use Rattle.soda_eval.specs.Runs.{HasValues}

-- one value more of a type stands before values of which one less is needed
pub values_more : (ty : IntType) (count : ℕ) (vs : List ℤ) (r : Option (Bor (List ℤ))) → 0 < count → 0 < length vs → InRange ty (slice_index_or vs 0 (pos 0))
    → IfSome r (λ rest. (types : List IntType) → HasValues types rest.now → HasValues (replicate (count - 1) ty ++ types) (take (length vs - 1) (drop 1 vs)))
    → IfSome r (λ rest. (types : List IntType) → HasValues types rest.now → HasValues (replicate count ty ++ types) vs)
values_more ty zero vs r some there fits h = absurd (omega (arith, some))
values_more ty (suc n) [] r some there fits h = absurd (omega (arith, there))
values_more ty (suc n) (v ∷ vs) None some there fits h = search rules
values_more ty (suc n) (v ∷ vs) (Some rest) some there fits h =
    let less : suc n - 1 ≡ n = omega arith in
    let shorter : length (v ∷ vs) - 1 ≡ length vs = omega arith in
    let behind : take (length (v ∷ vs) - 1) (drop 1 (v ∷ vs)) ≡ vs = ap (λ k. take k vs) shorter ∙ take-length vs in
    λ types has. (fits, subst (λ m. HasValues (replicate m ty ++ types) vs) less (subst (HasValues (replicate (suc n - 1) ty ++ types)) behind (h types has)))
