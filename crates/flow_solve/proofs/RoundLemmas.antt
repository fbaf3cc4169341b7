-- What rounds over the arcs keep.
use Rattle.std.proofs.Common.{◌≡◌, ℕ, suc, ◌+◌, ◌*◌, ◌<◌, ◌≤◌, List, [], ◌∷◌, ◌++◌, length, Option, Some, None, ℤ, pos, ◌+ℤ◌, ◌≤ℤ◌, refl, sym, ◌∙◌, ap, arith, length-append}
use Rattle.std.specs.List.{slice_index_or}
use Rattle.std.proofs.lemmas.Int.{ints}
use Rattle.flow_solve.specs.Limits.{most_arc_length}
use Rattle.flow_solve.specs.declared.arc.Arc.{Arc}
use Rattle.flow_solve.specs.Walk.{arc_at, IsWalk, walk_length}
use Rattle.flow_solve.specs.machine.Rounds.{at, IsArc, IsGraph, IsRound, ComesBy, After, BoundsWalks}
use Rattle.flow_solve.proofs.WalkLemmas.{walk_join, walk_length-append, walk_within, walk_last}

pub arc_in : (nodes : ℕ) (graph : List Arc) (k : ℕ) → IsGraph nodes graph → k < length graph → IsArc nodes (arc_at graph k)
arc_in nodes graph k is lt = is.arcs k (record { from = 0; to = 0; length = pos 0 }) lt

-- no empty walk is longer than 0
pub bounds_none : (graph : List Arc) (nodes : ℕ) (lengths : List ℤ) → length lengths ≡ nodes → ((v : ℕ) → v < nodes → at lengths v ≡ pos 0)
    → BoundsWalks graph 0 lengths
bounds_none graph nodes lengths size zeros = λ from walk to w short in_range. none from to walk w short in_range
  where
    none : (from to : ℕ) (walk : List ℕ) → IsWalk graph from walk to → length walk ≤ 0 → to < length lengths → walk_length graph walk ≤ℤ at lengths to
    none from to [] w short in_range = omega (arith, ints, zeros to (omega arith))
    none from to (k ∷ walk) w short in_range = absurd (omega arith)

-- one arc more
pub bounds_more : (graph : List Arc) (nodes n : ℕ) (old : List ℤ) (last : List (Option ℕ)) (new : List ℤ) → IsGraph nodes graph → length old ≡ nodes
    → IsRound graph old last new → BoundsWalks graph n old → BoundsWalks graph (n + 1) new
bounds_more graph nodes n old last new is size round bounds = λ from walk to w short in_range. more from to walk w short (omega (arith, round.size, in_range))
  where
    more : (from to : ℕ) (walk : List ℕ) → IsWalk graph from walk to → length walk ≤ n + 1 → to < length old → walk_length graph walk ≤ℤ at new to
    more from to [] w short in_range =
        let before : pos 0 ≤ℤ at old to = bounds from [] to w (omega arith) in_range in
        omega (arith, ints, round.grows to in_range)
    more from to (k ∷ walk) w short in_range =
        let cut = walk_last graph from to k walk w in
        let arc = arc_in nodes graph cut.1 is cut.4 in
        let size_is : length (k ∷ walk) ≡ length cut.0 + 1 = ap length cut.2 ∙ length-append cut.0 (cut.1 ∷ []) in
        let before = bounds from cut.0 (arc_at graph cut.1).from cut.3 (omega (arith, size_is, short)) (omega (arith, arc.0, size)) in
        let length_is : walk_length graph (k ∷ walk) ≡ walk_length graph cut.0 +ℤ walk_length graph (cut.1 ∷ []) = ap (walk_length graph) cut.2
        ∙ walk_length-append graph cut.0 (cut.1 ∷ []) in
        let last_is : at new (arc_at graph cut.1).to ≡ at new to = ap (at new) cut.5 in
        omega (arith, ints, length_is, before, last_is, round.further cut.1 cut.4)

pub after_size : (graph : List Arc) (nodes : ℕ) (rounds : List (List (Option ℕ))) (lengths : List ℤ) → After graph nodes rounds lengths → length lengths ≡ nodes
after_size graph nodes [] lengths after = after.0
after_size graph nodes (last ∷ rounds) lengths after = after.1.size ∙ after_size graph nodes rounds after.0 after.2

-- a length after some rounds is at least 0, and at most that many greatest lengths of an arc
pub after_small : (graph : List Arc) (nodes : ℕ) (rounds : List (List (Option ℕ))) (lengths : List ℤ) → IsGraph nodes graph → After graph nodes rounds lengths
    → (v : ℕ) → v < nodes → (pos 0 ≤ℤ at lengths v) × (at lengths v ≤ℤ pos (length rounds * most_arc_length))
after_small graph nodes [] lengths is after v lt = (omega (arith, ints, after.1 v lt), omega (arith, ints, after.1 v lt))
after_small graph nodes (last ∷ rounds) lengths is after v lt =
    let old = after.0 in
    let size = after_size graph nodes rounds old after.2 in
    let before = after_small graph nodes rounds old is after.2 in
    let here = before v lt in
    let in_old : v < length old = omega (arith, size, lt) in (
      omega (arith, ints, here.0, after.1.grows v in_old),
      come (slice_index_or last v None) (after.1.comes v in_old) here.1
          (λ k in_graph. (before (arc_at graph k).from (arc_in nodes graph k is in_graph).0).1),
    )
  where
    come : (o : Option ℕ) → ComesBy graph after.0 v (at lengths v) o → at after.0 v ≤ℤ pos (length rounds * most_arc_length)
        → ((k : ℕ) → k < length graph → at after.0 (arc_at graph k).from ≤ℤ pos (length rounds * most_arc_length))
        → at lengths v ≤ℤ pos (suc (length rounds) * most_arc_length)
    come None stays here there = omega (arith, ints)
    come (Some k) came here there = omega (arith, ints, came.2, there k came.0, (arc_in nodes graph k is came.0).3)

-- each length after some rounds is the length of a walk
pub after_reached : (graph : List Arc) (nodes : ℕ) (rounds : List (List (Option ℕ))) (lengths : List ℤ) → IsGraph nodes graph → After graph nodes rounds lengths
    → (v : ℕ) → v < nodes → (from : ℕ) × (walk : List ℕ) × (from < nodes) × IsWalk graph from walk v × (walk_length graph walk ≡ at lengths v)
after_reached graph nodes [] lengths is after v lt = (v, [], lt, refl, sym (after.1 v lt))
after_reached graph nodes (last ∷ rounds) lengths is after v lt =
    come (slice_index_or last v None) (after.1.comes v (omega (arith, after_size graph nodes rounds after.0 after.2, lt)))
    (after_reached graph nodes rounds after.0 is after.2)
  where
    come : (o : Option ℕ) → ComesBy graph after.0 v (at lengths v) o
        → ((u : ℕ) → u < nodes → (from : ℕ) × (walk : List ℕ) × (from < nodes) × IsWalk graph from walk u × (walk_length graph walk ≡ at after.0 u))
        → (from : ℕ) × (walk : List ℕ) × (from < nodes) × IsWalk graph from walk v × (walk_length graph walk ≡ at lengths v)
    come None stays before = let w = before v lt in (w.0, w.1, w.2, w.3, w.4 ∙ sym stays)
    come (Some k) came before =
        let w = before (arc_at graph k).from (arc_in nodes graph k is came.0).0 in (
          w.0,
          w.1 ++ k ∷ [],
          w.2,
          walk_join graph w.0 (arc_at graph k).from v w.1 (k ∷ []) w.3 (came.0, refl, came.1),
          omega
              (arith, ints, walk_length-append graph w.1 (k ∷ []), w.4, came.2),
        )

-- where the last round changed nothing, the lengths are the greatest, and no closed walk is positive
pub still_bounds : (graph : List Arc) (nodes : ℕ) (old : List ℤ) (last : List (Option ℕ)) (new : List ℤ) → IsGraph nodes graph → length old ≡ nodes
    → IsRound graph old last new → ((v : ℕ) → v < nodes → at new v ≡ at old v)
    → (from to : ℕ) (walk : List ℕ) → IsWalk graph from walk to → (at old from +ℤ walk_length graph walk) ≤ℤ at old to
still_bounds graph nodes old last new is size round still from to walk w =
    walk_within graph old (λ k lt. let same = still (arc_at graph k).to (arc_in nodes graph k is lt).1
    in omega (arith, ints, round.further k lt)) from to walk w
