-- A round over the first arcs of a graph.
use Rattle.std.proofs.Common.{◌≡◌, ℕ, ◌+◌, ◌<◌, ◌≤◌, List, length, Option, Some, None, ℤ, pos, ◌+ℤ◌, ◌<ℤ◌, ◌≤ℤ◌, refl, sym, subst, ◌∙◌, arith, ⊎_elim, set, length-set, get_or-set_same, get_or-set_other, replicate, IfSome, IfNone, below_more}
use Rattle.std.specs.List.{slice_index_or}
use Rattle.std.proofs.lemmas.Int.{ints}
use Rattle.std.proofs.lemmas.Bool.{cases_eq}
use Rattle.std.proofs.lemmas.List.{get_or-replicate, length-replicate}
use Rattle.flow_solve.specs.declared.arc.Arc.{Arc}
use Rattle.flow_solve.specs.Walk.{arc_at}
use Rattle.flow_solve.specs.machine.Rounds.{at, IsArc, IsGraph, IsRound, ComesBy}
use Rattle.flow_solve.proofs.RoundLemmas.{arc_in}

-- the round so far, over the first n arcs
pub record IsPart (graph : List Arc) (n nodes : ℕ) (old : List ℤ) (last : List (Option ℕ)) (new : List ℤ) (raised : Option ℕ) : Type 0 where
  pub size : length new ≡ nodes
  pub last_size : length last ≡ nodes
  pub comes : (v : ℕ) → v < nodes → ComesBy graph old v (at new v) (slice_index_or last v None)
  pub grows : (v : ℕ) → v < nodes → at old v ≤ℤ at new v
  pub further : (k : ℕ) → k < n → (at old (arc_at graph k).from +ℤ (arc_at graph k).length) ≤ℤ at new (arc_at graph k).to
  pub risen : IfSome raised (λ v. (v < nodes) × (at old v <ℤ at new v))
  pub still : IfNone raised ((v : ℕ) → v < nodes → at new v ≡ at old v)

pub part_none : (graph : List Arc) (nodes : ℕ) (old : List ℤ) → length old ≡ nodes → IsPart graph 0 nodes old (replicate nodes None) old None
part_none graph nodes old size = record {
  size = size;
  last_size = length-replicate {A = Option ℕ} nodes None;
  comes = λ v lt. subst (ComesBy graph old v (at old v)) (sym (get_or-replicate {A = Option ℕ} nodes v None None lt)) refl;
  grows = λ v lt. omega (arith, ints);
  further = λ k lt. absurd (omega arith);
  risen = tt;
  still = λ v lt. refl;
}

-- an arc that leads no further is passed over
pub part_passed : (graph : List Arc) (n nodes : ℕ) (old : List ℤ) (last : List (Option ℕ)) (new : List ℤ) (raised : Option ℕ)
    → (at old (arc_at graph n).from +ℤ (arc_at graph n).length) ≤ℤ at new (arc_at graph n).to
    → IsPart graph n nodes old last new raised → IsPart graph (n + 1) nodes old last new raised
part_passed graph n nodes old last new raised here part = record {
  size = part.size;
  last_size = part.last_size;
  comes = part.comes;
  grows = part.grows;
  further = below_more _ n part.further here;
  risen = part.risen;
  still = part.still;
}

-- an arc that leads further is taken
pub part_taken : (graph : List Arc) (n nodes : ℕ) (old : List ℤ) (last : List (Option ℕ)) (new : List ℤ) (raised : Option ℕ) (z : ℤ)
    → IsGraph nodes graph → n < length graph → z ≡ at old (arc_at graph n).from +ℤ (arc_at graph n).length → at new (arc_at graph n).to <ℤ z
    → IsPart graph n nodes old last new raised → IsPart graph (n + 1) nodes old (set last (arc_at graph n).to (Some n)) (set new (arc_at graph n).to z)
    (Some (arc_at graph n).to)
part_taken graph n nodes old last new raised z is lt sum above part = record {
  size = length-set new to z ∙ part.size;
  last_size = length-set last to (Some n) ∙ part.last_size;
  comes = λ v in_range. ⊎_elim
      (λ e. subst (λ u. ComesBy graph old u (at (set new to z) u) (slice_index_or (set last to (Some n)) u None)) e
      (subst (ComesBy graph old to (at (set new to z) to)) (sym (get_or-set_same last to (Some n) None to_in_last)) (lt, refl, here ∙ sum)))
      (λ ne. subst (λ o. ComesBy graph old v (at (set new to z) v) o) (sym (get_or-set_other last to v (Some n) None (λ e. ne (sym e))))
      (subst (λ x. ComesBy graph old v x (slice_index_or last v None)) (sym (elsewhere v ne)) (part.comes v in_range)))
      (cases_eq to v);
  grows = λ v in_range. let more = more_at v in let before = part.grows v in_range in omega (arith, ints);
  further = below_more _ n (λ k below. let more = more_at (arc_at graph k).to in let before = part.further k below in omega (arith, ints))
      (omega (arith, ints, here, sum));
  risen = (arc.1, let before = part.grows to arc.1 in omega (arith, ints, here));
  still = tt;
}
  where
    to : ℕ
    to = (arc_at graph n).to

    arc : IsArc nodes (arc_at graph n)
    arc = arc_in nodes graph n is lt

    to_in : to < length new
    to_in = omega (arith, arc.1, part.size)

    to_in_last : to < length last
    to_in_last = omega (arith, arc.1, part.last_size)

    here : at (set new to z) to ≡ z
    here = get_or-set_same new to z (pos 0) to_in

    elsewhere : (v : ℕ) → (to ≡ v → ⊥) → at (set new to z) v ≡ at new v
    elsewhere v ne = get_or-set_other new to v z (pos 0) (λ e. ne (sym e))

    more_at : (v : ℕ) → at new v ≤ℤ at (set new to z) v
    more_at v = ⊎_elim (λ e. subst (λ u. at new u ≤ℤ at (set new to z) u) e (omega (arith, ints, here, above))) (λ ne. omega (arith, ints, elsewhere v ne))
        (cases_eq to v)

pub part_all : (graph : List Arc) (nodes : ℕ) (old : List ℤ) (last : List (Option ℕ)) (new : List ℤ) (raised : Option ℕ) (n : ℕ) → length old ≡ nodes
    → length graph ≤ n
    → IsPart graph n nodes old last new raised → IsRound graph old last new
part_all graph nodes old last new raised n size past part = record {
  size = part.size ∙ sym size;
  last_size = part.last_size ∙ sym size;
  comes = λ v lt. part.comes v (omega arith);
  grows = λ v lt. part.grows v (omega arith);
  further = λ k lt. part.further k (omega arith);
}

pub part_same : (graph : List Arc) (n nodes : ℕ) (old : List ℤ) (last last' : List (Option ℕ)) (new new' : List ℤ) (raised raised' : Option ℕ)
    → last' ≡ last → new' ≡ new → raised' ≡ raised → IsPart graph n nodes old last new raised → IsPart graph n nodes old last' new' raised'
part_same graph n nodes old last last' new new' raised raised' e f g part =
    subst (λ l. IsPart graph n nodes old l new' raised') (sym e)
    (subst (λ l. IsPart graph n nodes old last l raised') (sym f) (subst (λ r. IsPart graph n nodes old last new r) (sym g) part))
