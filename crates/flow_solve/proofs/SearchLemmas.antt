-- The search for longest walks, round by round.
use Rattle.std.proofs.Common.{◌≡◌, ℕ, ◌+◌, ◌<◌, ◌≤◌, List, [], ◌∷◌, ◌++◌, length, reverse, replicate, Option, Some, None, ℤ, pos, ◌<ℤ◌, refl, sym, subst, arith, length-append, IfSome, IfNone}
use Rattle.std.proofs.lemmas.Int.{ints}
use Rattle.std.proofs.lemmas.List.{reverse-append, get_or-replicate, length-replicate}
use Rattle.flow_solve.specs.declared.arc.Arc.{Arc}
use Rattle.flow_solve.specs.Walk.{at, IsGraph, IsWalk, walk_length, IsGreatestLength, HasPositiveCycle}
use Rattle.flow_solve.specs.machine.Rounds.{IsRound, After, BoundsWalks}
use Rattle.flow_solve.proofs.RoundLemmas.{arc_in, bounds_none, bounds_more, after_size, after_small, after_reached, still_bounds}

-- after n rounds
pub record IsSearch (graph : List Arc) (nodes n : ℕ) (lengths : List ℤ) (last : List (List (Option ℕ))) (raised : Option ℕ) : Type 0 where
  pub after : After graph nodes (reverse last) lengths
  pub count : length last ≡ n
  pub bounds : BoundsWalks graph n lengths
  pub risen : IfSome raised (λ v. (v < nodes) × ((f : ℕ) (w : List ℕ) → IsWalk graph f w v → length w < n → walk_length graph w <ℤ at lengths v))
  pub none : IfNone raised (n ≡ 0)

pub search_start : (graph : List Arc) (nodes : ℕ) → IsSearch graph nodes 0 (replicate nodes (pos 0)) [] None
search_start graph nodes =
    let size = length-replicate {A = ℤ} nodes (pos 0) in
    let zeros : (v : ℕ) → v < nodes → at (replicate nodes (pos 0)) v ≡ pos 0 = λ v lt. get_or-replicate {A = ℤ} nodes v (pos 0) (pos 0) lt in
    record { after = (size, zeros); count = refl; bounds = bounds_none graph nodes (replicate nodes (pos 0)) size zeros; risen = tt; none = refl }

pub search_more : (graph : List Arc) (nodes n v : ℕ) (old new : List ℤ) (last : List (List (Option ℕ))) (taken : List (Option ℕ)) (raised : Option ℕ)
    → IsGraph nodes graph
    → IsSearch graph nodes n old last raised → IsRound graph old taken new → v < nodes → at old v <ℤ at new v
    → IsSearch graph nodes (n + 1) new (last ++ taken ∷ []) (Some v)
search_more graph nodes n v old new last taken raised is s round lt up =
    let size = after_size graph nodes (reverse last) old s.after in
    record {
      after = subst (λ rs. After graph nodes rs new) (sym (reverse-append last (taken ∷ []))) (old, round, s.after);
      count = omega (arith, length-append last (taken ∷ []), s.count);
      bounds = bounds_more graph nodes n old taken new is size round s.bounds;
      risen = (lt, λ f w walk short. let before = s.bounds f w v walk (omega arith) (omega (arith, size)) in omega (arith, ints));
      none = tt;
    }

walk_from : (graph : List Arc) (nodes s t : ℕ) (walk : List ℕ) → IsGraph nodes graph → IsWalk graph s walk t → t < nodes → s < nodes
walk_from graph nodes s t [] is w lt = omega (arith, w)
walk_from graph nodes s t (k ∷ walk) is w lt = omega (arith, w.1, (arc_in nodes graph k is w.0).0)

-- a round that changes nothing ends the search
pub search_still : (graph : List Arc) (nodes n : ℕ) (old new : List ℤ) (last : List (List (Option ℕ))) (taken : List (Option ℕ)) (raised : Option ℕ)
    → IsGraph nodes graph
    → IsSearch graph nodes n old last raised → IsRound graph old taken new → ((v : ℕ) → v < nodes → at new v ≡ at old v)
    → ((length old ≡ nodes) × ((v : ℕ) → v < nodes → IsGreatestLength nodes graph v (at old v))) × (HasPositiveCycle graph → ⊥)
search_still graph nodes n old new last taken raised is s round still =
    let size = after_size graph nodes (reverse last) old s.after in
    let within = still_bounds graph nodes old taken new is size round still in (
      (
        size,
        λ v lt. record {
          reached = after_reached graph nodes (reverse last) old is s.after v lt;
          bound = λ f w walk. let start = (after_small graph nodes (reverse last) old is s.after f (walk_from graph nodes f v w is walk lt)).0
              in let end = within f v w walk in omega (arith, ints);
        },
      ),
      λ cycle. let round_trip = within cycle.1.0 cycle.1.0 cycle.0 cycle.1.1 in let positive = cycle.1.2 in omega (arith, ints),
    )

-- without nodes there is nothing to tell
pub search_nothing : (graph : List Arc) (nodes n : ℕ) (lengths : List ℤ) (last : List (List (Option ℕ))) → IsGraph nodes graph → nodes ≤ n
    → IsSearch graph nodes n lengths last None
    → ((length lengths ≡ nodes) × ((v : ℕ) → v < nodes → IsGreatestLength nodes graph v (at lengths v))) × (HasPositiveCycle graph → ⊥)
search_nothing graph nodes n lengths last is past s =
    ((after_size graph nodes (reverse last) lengths s.after, λ v lt. absurd (omega (arith, s.none))), λ cycle. empty cycle.0 cycle.1.0 cycle.1.1 cycle.1.2)
  where
    empty : (walk : List ℕ) (node : ℕ) → IsWalk graph node walk node → pos 0 <ℤ walk_length graph walk → ⊥
    empty [] node w positive = omega (arith, ints)
    empty (k ∷ walk) node w positive = omega (arith, s.none, (arc_in nodes graph k is w.0).0)
