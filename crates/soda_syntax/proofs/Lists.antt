-- Two ways of parting one list.
use Rattle.std.proofs.Common.{◌≡◌, ◌⊎◌, inl, inr, List, [], ◌∷◌, ◌++◌, refl, sym}

-- the second front is at least as long as the first
pub record Beyond {A : Type 0} (xs us ys vs : List A) : Type 0 where
  pub more : List A
  pub front : us ≡ xs ++ more
  pub rest : ys ≡ more ++ vs

-- the second front is shorter than the first
pub record Before {A : Type 0} (xs us ys vs : List A) : Type 0 where
  pub first : A
  pub more : List A
  pub front : xs ≡ us ++ first ∷ more
  pub rest : vs ≡ (first ∷ more) ++ ys

pub compare : {A : Type 0} (xs us ys vs : List A) → xs ++ ys ≡ us ++ vs → Beyond xs us ys vs ⊎ Before xs us ys vs
compare [] us ys vs e = inl (record { more = us; front = refl; rest = e })
compare (x ∷ xs) [] ys vs e = inr (record { first = x; more = xs; front = refl; rest = sym e })
compare (x ∷ xs) (u ∷ us) ys vs e =
    let same : x ≡ u = cc in
    let tails : xs ++ ys ≡ us ++ vs = cc in
    elim (compare xs us ys vs tails) [
      | inl b ↦ inl (let f : u ∷ us ≡ (x ∷ xs) ++ b.more = cc (b.front) in record { more = b.more; front = f; rest = b.rest })
      | inr b ↦ inr (let f : x ∷ xs ≡ (u ∷ us) ++ b.first ∷ b.more = cc (b.front) in record { first = b.first; more = b.more; front = f; rest = b.rest })
    ]
