-- Joining the values of all slots.
use Rattle.std.proofs.Common.{◌≡◌, ℕ, ◌+◌, ◌<◌, ◌≤◌, List, [], ◌∷◌, ◌++◌, length, drop, get_or, Option, Some, None, ℤ, refl, sym, ◌∙◌, ap, append_assoc}
use Rattle.std.proofs.lemmas.List.{append-nil, drop_all, drop_more}
use Rattle.param_lines.specs.Params.{joined}
use Rattle.param_lines.proofs.Numbers.{none_front, with_front}

-- the values of the first slots are joined
pub record AreJoined (index : ℕ) (values : List ℤ) (slots : List (Option (List ℤ))) : Type 0 where
  pub same : with_front values (joined (drop index slots)) ≡ joined slots

front_twice : (values more : List ℤ) (o : Option (List ℤ)) → with_front (values ++ more) o ≡ with_front values (with_front more o)
front_twice values more None = refl
front_twice values more (Some vs) = ap (λ (xs : List ℤ). Some xs) (append_assoc values more vs)

pub begin_joining : (slots : List (Option (List ℤ))) → AreJoined 0 [] slots
begin_joining slots = record { same = none_front (joined slots) }

-- one slot more
pub join_more : (i : ℕ) (values more all : List ℤ) (slots : List (Option (List ℤ))) → AreJoined i values slots → i < length slots → get_or slots i None ≡ Some more → all ≡ values ++ more → AreJoined (i + 1) all slots
join_more i values more all slots joins lt at is =
    let here : drop i slots ≡ Some more ∷ drop (i + 1) slots = drop_more slots i None lt ∙ ap (λ s. s ∷ drop (i + 1) slots) at in
    record { same = ap (λ (xs : List ℤ). with_front xs (joined (drop (i + 1) slots))) is ∙ (front_twice values more (joined (drop (i + 1) slots)) ∙ (ap (λ ss. with_front values (joined ss)) (sym here) ∙ joins.same)) }

-- an empty slot
pub join_empty : (i : ℕ) (values : List ℤ) (slots : List (Option (List ℤ))) → AreJoined i values slots → i < length slots → get_or slots i None ≡ None → joined slots ≡ None
join_empty i values slots joins lt at =
    let here : drop i slots ≡ None ∷ drop (i + 1) slots = drop_more slots i None lt ∙ ap (λ s. s ∷ drop (i + 1) slots) at in
    sym joins.same ∙ ap (λ ss. with_front values (joined ss)) here

-- all slots are joined
pub join_ended : (i : ℕ) (values : List ℤ) (slots : List (Option (List ℤ))) → AreJoined i values slots → length slots ≤ i → Some values ≡ joined slots
join_ended i values slots joins h =
    ap (λ (xs : List ℤ). Some xs) (sym (append-nil values))
    ∙ (ap (λ ss. with_front values (joined ss)) (sym (drop_all i slots h)) ∙ joins.same)
