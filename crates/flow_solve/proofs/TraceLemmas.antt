-- Walks traced back through rounds, and the closed part of a walk that comes to a node twice.
use Rattle.std.proofs.Common.{◌≡◌, ℕ, zero, suc, ◌+◌, ◌<◌, ◌≤◌, List, [], ◌∷◌, ◌++◌, length, reverse, take, drop, get_or, set, replicate, Option, Some, None, ℤ, ◌+ℤ◌, ◌<ℤ◌, refl, sym, subst, ◌∙◌, ap, arith, length-append, length-drop, length-set, get_or-set_same, get_or-set_other, ⊎_elim, add-one, below_more, ◌≢◌, ◌-◌}
use Rattle.std.specs.List.{slice_index_or}
use Rattle.std.proofs.lemmas.Int.{ints}
use Rattle.std.proofs.lemmas.List.{take-append-drop, take-take, length-take-le, get_or-drop, get_or-take, get_or-replicate, length-replicate, get_or_past, reverse-append}
use Rattle.std.proofs.lemmas.Bool.{cases_eq, cases_lt}
use Rattle.flow_solve.specs.declared.arc.Arc.{Arc}
use Rattle.flow_solve.specs.Walk.{arc_at, IsWalk, walk_length, IsPositiveCycle, NoRepeat}
use Rattle.flow_solve.specs.machine.Rounds.{at, IsGraph, ComesBy, After}
use Rattle.flow_solve.proofs.RoundLemmas.{arc_in, after_size}
use Rattle.flow_solve.proofs.WalkLemmas.{walk_join, walk_length-append, walk_cut}

-- a walk from a node by given arcs ends at one node
pub walk_end : (graph : List Arc) (s a b : ℕ) (walk : List ℕ) → IsWalk graph s walk a → IsWalk graph s walk b → a ≡ b
walk_end graph s a b [] w x = sym w ∙ x
walk_end graph s a b (k ∷ walk) w x = walk_end graph (arc_at graph k).to a b walk w.2 x.2

-- the first arcs of a walk
pub walk_front : (graph : List Arc) (s t i : ℕ) (walk : List ℕ) → IsWalk graph s walk t → i < length walk
    → IsWalk graph s (take (suc i) walk) (arc_at graph (get_or walk i 0)).to
walk_front graph s t i [] w lt = absurd (omega arith)
walk_front graph s t zero (k ∷ walk) w lt = (w.0, w.1, refl)
walk_front graph s t (suc i) (k ∷ walk) w lt = (w.0, w.1, walk_front graph (arc_at graph k).to t i walk w.2 (omega arith))

pub arc_in_walk : (graph : List Arc) (s t i : ℕ) (walk : List ℕ) → IsWalk graph s walk t → i < length walk → get_or walk i 0 < length graph
arc_in_walk graph s t i [] w lt = absurd (omega arith)
arc_in_walk graph s t zero (k ∷ walk) w lt = w.0
arc_in_walk graph s t (suc i) (k ∷ walk) w lt = arc_in_walk graph (arc_at graph k).to t i walk w.2 (omega arith)

-- a walk in three parts, whose middle part leads back to its own beginning
three_parts : (graph : List Arc) (from u target n : ℕ) (z : ℤ) (p c s : List ℕ) → IsWalk graph from p u → IsWalk graph from (p ++ c) u
    → IsWalk graph from ((p ++ c) ++ s) target
    → 0 < length c → length ((p ++ c) ++ s) ≤ n → walk_length graph ((p ++ c) ++ s) ≡ z
    → ((f : ℕ) (w : List ℕ) → IsWalk graph f w target → length w < n → walk_length graph w <ℤ z)
    → IsPositiveCycle graph c
three_parts graph from u target n z p c s front both whole some few is shorter =
    let middle = walk_cut graph from u p c both in
    let middle_from : middle.0 ≡ u = walk_end graph from _ _ p middle.1 front in
    let end = walk_cut graph from target (p ++ c) s whole in
    let end_from : end.0 ≡ u = walk_end graph from _ _ (p ++ c) end.1 both in
    let rest = walk_join graph from u target p s front (subst (λ n. IsWalk graph n s target) end_from end.2) in
    let fewer : length (p ++ s) < n = omega (arith, length-append p s, length-append (p ++ c) s, length-append p c, some, few) in
    let less = shorter from (p ++ s) rest fewer in (
      u,
      subst (λ n. IsWalk graph n c u) middle_from middle.2,
      omega (arith, ints, less, is, walk_length-append graph p s, walk_length-append graph (p ++ c) s, walk_length-append graph p c),
    )

-- the part of a walk between two visits of one node is a positive cycle, where each shorter walk to its end is less long
pub closed_part : (graph : List Arc) (from u target n first again : ℕ) (z : ℤ) (walk : List ℕ) → IsWalk graph from walk target
    → first < again → again ≤ length walk → IsWalk graph from (take first walk) u → IsWalk graph from (take again walk) u
    → length walk ≤ n → walk_length graph walk ≡ z
    → ((f : ℕ) (w : List ℕ) → IsWalk graph f w target → length w < n → walk_length graph w <ℤ z)
    → IsPositiveCycle graph (drop first (take again walk))
closed_part graph from u target n first again z walk w lt le front both few is shorter =
    let p = take first walk in
    let c = drop first (take again walk) in
    let s = drop again walk in
    let two : p ++ c ≡ take again walk = ap (λ l. l ++ c) (sym (take-take first again walk (omega arith))) ∙ take-append-drop first (take again walk) in
    let three : (p ++ c) ++ s ≡ walk = ap (λ l. l ++ s) two ∙ take-append-drop again walk in
    three_parts graph from u target n z p c s front
    (subst (λ l. IsWalk graph from l u) (sym two) both)
    (subst (λ l. IsWalk graph from l target) (sym three) w)
    (omega (arith, length-drop first (take again walk), length-take-le again walk le))
    (omega (arith, ap length three, few))
    (ap (walk_length graph) three ∙ is)
    shorter

-- how many places are filled
unfoldable pub filled : List (Option ℕ) → ℕ
filled [] = 0
filled (None ∷ places) = filled places
filled (Some p ∷ places) = filled places + 1

pub filled_none : (n : ℕ) → filled (replicate n None) ≡ 0
unfolding filled
filled_none zero = refl
filled_none (suc n) = filled_none n

pub filled_within : (places : List (Option ℕ)) → filled places ≤ length places
unfolding filled
filled_within [] = omega arith
filled_within (None ∷ places) = omega (arith, filled_within places)
filled_within (Some p ∷ places) = omega (arith, filled_within places)

pub filled-set : (places : List (Option ℕ)) (i p : ℕ) → i < length places → get_or places i None ≡ None → filled (set places i (Some p)) ≡ filled places + 1
unfolding filled
filled-set [] i p lt h = absurd (omega arith)
filled-set (None ∷ places) zero p lt h = refl
filled-set (Some q ∷ places) zero p lt h = absurd (cc)
filled-set (None ∷ places) (suc i) p lt h = filled-set places i p (omega arith) h
filled-set (Some q ∷ places) (suc i) p lt h = omega (arith, filled-set places i p (omega arith) h)

-- the places at which the nodes of a walk's first i arcs were seen
pub record Seen (graph : List Arc) (nodes from : ℕ) (walk : List ℕ) (i : ℕ) (seen : List (Option ℕ)) : Type 0 where
  pub size : length seen ≡ nodes
  pub places : (v p : ℕ) → get_or seen v None ≡ Some p → (p ≤ i) × IsWalk graph from (take p walk) v
  pub count : filled seen ≡ i + 1
  pub marked : (p : ℕ) → p < i → get_or seen (arc_at graph (get_or walk p 0)).to None ≡ Some (p + 1)

pub seen_start : (graph : List Arc) (nodes from : ℕ) (walk : List ℕ) → from < nodes → Seen graph nodes from walk 0 (set (replicate nodes None) from (Some 0))
seen_start graph nodes from walk lt = record {
  size = length-set (replicate nodes None) from (Some 0) ∙ size;
  places = λ v p e. ⊎_elim
      (λ is. at_from v p is (ap (λ u. get_or (set (replicate nodes None) from (Some 0)) u None) is ∙ e))
      (λ ne. absurd (nowhere v p (sym (get_or-set_other (replicate nodes None) from v (Some 0) None (λ e'. ne (sym e'))) ∙ e)))
      (cases_eq from v);
  count = filled-set (replicate nodes None) from 0 (omega (arith, size)) (get_or-replicate {A = Option ℕ} nodes from None None lt)
      ∙ ap (λ n. n + 1) (filled_none nodes);
  marked = λ p lt'. absurd (omega arith);
}
  where
    size : length (replicate {A = Option ℕ} nodes None) ≡ nodes
    size = length-replicate {A = Option ℕ} nodes None

    at_from : (v p : ℕ) → from ≡ v → get_or (set (replicate nodes None) from (Some 0)) from None ≡ Some p → (p ≤ 0) × IsWalk graph from (take p walk) v
    at_from v p is e =
        let zero_is : 0 ≡ p = let h : Some 0 ≡ Some p = sym (get_or-set_same (replicate nodes None) from (Some 0) None (omega (arith, size, lt))) ∙ e in cc in
        subst (λ q. (q ≤ 0) × IsWalk graph from (take q walk) v) zero_is (omega arith, is)

    nowhere : (v p : ℕ) → get_or (replicate nodes None) v None ≡ Some p → ⊥
    nowhere v p e = ⊎_elim
        (λ in_range. let h : None ≡ Some p = sym (get_or-replicate {A = Option ℕ} nodes v None None in_range) ∙ e in cc)
        (λ past. let h : None ≡ Some p = sym (get_or_past (replicate nodes None) v None (omega (arith, size, past))) ∙ e in cc)
        (cases_lt v nodes)

pub seen_more : (graph : List Arc) (nodes from to i : ℕ) (walk : List ℕ) (seen : List (Option ℕ)) → IsWalk graph from walk to → i < length walk
    → (arc_at graph (get_or walk i 0)).to < nodes → get_or seen (arc_at graph (get_or walk i 0)).to None ≡ None → Seen graph nodes from walk i seen
    → Seen graph nodes from walk (i + 1) (set seen (arc_at graph (get_or walk i 0)).to (Some (i + 1)))
seen_more graph nodes from to i walk seen w lt in_range new before = record {
  size = length-set seen node (Some (i + 1)) ∙ before.size;
  places = λ v p e. ⊎_elim
      (λ is. here v p is (ap (λ u. get_or (set seen node (Some (i + 1))) u None) is ∙ e))
      (λ ne. let earlier = before.places v p (sym (get_or-set_other seen node v (Some (i + 1)) None (λ e'. ne (sym e'))) ∙ e)
      in (omega (arith, earlier.0), earlier.1))
      (cases_eq node v);
  count = filled-set seen node (i + 1) (omega (arith, before.size, in_range)) new ∙ ap (λ n. n + 1) before.count;
  marked = below_more (λ p. get_or (set seen node (Some (i + 1))) (arc_at graph (get_or walk p 0)).to None ≡ Some (p + 1)) i
      (λ p lt'. earlier p (before.marked p lt'))
      (get_or-set_same seen node (Some (i + 1)) None (omega (arith, before.size, in_range)));
}
  where
    node : ℕ
    node = (arc_at graph (get_or walk i 0)).to

    earlier : (p : ℕ) → get_or seen (arc_at graph (get_or walk p 0)).to None ≡ Some (p + 1)
        → get_or (set seen node (Some (i + 1))) (arc_at graph (get_or walk p 0)).to None ≡ Some (p + 1)
    earlier p e = get_or-set_other seen node (arc_at graph (get_or walk p 0)).to (Some (i + 1)) None
        (λ same. let h : None ≡ Some (p + 1) = sym new ∙ ap (λ u. get_or seen u None) (sym same) ∙ e in cc) ∙ e

    here : (v p : ℕ) → node ≡ v → get_or (set seen node (Some (i + 1))) node None ≡ Some p → (p ≤ i + 1) × IsWalk graph from (take p walk) v
    here v p is e =
        let place_is : i + 1 ≡ p = let h : Some (i + 1) ≡ Some p = sym (get_or-set_same seen node (Some (i + 1)) None (omega (arith, before.size, in_range)))
        ∙ e in cc in
        subst (λ q. (q ≤ i + 1) × IsWalk graph from (take q walk) v) place_is
        (omega arith, subst (IsWalk graph from (take (i + 1) walk)) is (rw add-one (walk_front graph from to i walk w lt)))

pub seen_again : (graph : List Arc) (nodes from to i first : ℕ) (walk : List ℕ) (seen : List (Option ℕ)) → IsWalk graph from walk to → i < length walk
    → get_or seen (arc_at graph (get_or walk i 0)).to None ≡ Some first → Seen graph nodes from walk i seen
    → (first < i + 1) × (u : ℕ) × IsWalk graph from (take first walk) u × IsWalk graph from (take (i + 1) walk) u
seen_again graph nodes from to i first walk seen w lt old before =
    let earlier = before.places (arc_at graph (get_or walk i 0)).to first old in
    (omega (arith, earlier.0), (arc_at graph (get_or walk i 0)).to, earlier.1, rw add-one (walk_front graph from to i walk w lt))

pub seen_all : (graph : List Arc) (nodes from i : ℕ) (walk : List ℕ) (seen : List (Option ℕ)) → nodes ≤ i → Seen graph nodes from walk i seen → ⊥
seen_all graph nodes from i walk seen past before = omega (arith, before.count, before.size, filled_within seen)

-- a walk traced back: what it adds to the length of the node where it begins, before these rounds, is z
pub record Traces (graph : List Arc) (nodes : ℕ) (rounds : List (List (Option ℕ))) (back : List ℕ) (from to : ℕ) (z : ℤ) (n : ℕ) : Type 0 where
  pub old : List ℤ
  pub after : After graph nodes (reverse rounds) old
  pub in_range : from < nodes
  pub walk : IsWalk graph from (reverse back) to
  pub sum : at old from +ℤ walk_length graph (reverse back) ≡ z
  pub arcs : length back + length rounds ≤ n

pub trace_kept : (graph : List Arc) (nodes : ℕ) (rounds rounds' : List (List (Option ℕ))) (last : List (Option ℕ)) (back : List ℕ) (from to : ℕ) (z : ℤ) (n : ℕ)
    → rounds ≡ rounds' ++ last ∷ [] → slice_index_or last from None ≡ None → Traces graph nodes rounds back from to z n
    → Traces graph nodes rounds' back from to z n
trace_kept graph nodes rounds rounds' last back from to z n e none t =
    let after = subst (λ rs. After graph nodes rs t.old) (ap reverse e ∙ reverse-append rounds' (last ∷ [])) t.after in
    let size = after_size graph nodes (reverse rounds') after.0 after.2 in
    let same : at t.old from ≡ at after.0 from = subst (ComesBy graph after.0 from (at t.old from)) none
    (after.1.comes from (omega (arith, size, t.in_range))) in
    record {
      old = after.0;
      after = after.2;
      in_range = t.in_range;
      walk = t.walk;
      sum = omega (arith, ints, t.sum, same);
      arcs = omega (arith, t.arcs, ap length e, length-append rounds' (last ∷ []));
    }

pub trace_taken : (graph : List Arc) (nodes : ℕ) (rounds rounds' : List (List (Option ℕ))) (last : List (Option ℕ)) (back : List ℕ) (from to : ℕ) (z : ℤ)
    (n k : ℕ) → IsGraph nodes graph
    → rounds ≡ rounds' ++ last ∷ [] → slice_index_or last from None ≡ Some k → Traces graph nodes rounds back from to z n
    → Traces graph nodes rounds' (back ++ k ∷ []) (arc_at graph k).from to z n
trace_taken graph nodes rounds rounds' last back from to z n k is e some t =
    let after = subst (λ rs. After graph nodes rs t.old) (ap reverse e ∙ reverse-append rounds' (last ∷ [])) t.after in
    let size = after_size graph nodes (reverse rounds') after.0 after.2 in
    let came = subst (ComesBy graph after.0 from (at t.old from)) some (after.1.comes from (omega (arith, size, t.in_range))) in
    let front : reverse (back ++ k ∷ []) ≡ k ∷ reverse back = reverse-append back (k ∷ []) in
    record {
      old = after.0;
      after = after.2;
      in_range = (arc_in nodes graph k is came.0).0;
      walk = subst (λ l. IsWalk graph (arc_at graph k).from l to) (sym front) (came.0, refl, subst (λ u. IsWalk graph u (reverse back) to) (sym came.1) t.walk);
      sum = omega (arith, ints, t.sum, came.2, ap (walk_length graph) front);
      arcs = omega (arith, t.arcs, ap length e, length-append rounds' (last ∷ []), length-append back (k ∷ []));
    }

pub trace_size : (graph : List Arc) (nodes : ℕ) (rounds rounds' : List (List (Option ℕ))) (last : List (Option ℕ)) (back : List ℕ) (from to : ℕ) (z : ℤ) (n : ℕ)
    → rounds ≡ rounds' ++ last ∷ [] → Traces graph nodes rounds back from to z n → length last ≡ nodes
trace_size graph nodes rounds rounds' last back from to z n e t =
    let after = subst (λ rs. After graph nodes rs t.old) (ap reverse e ∙ reverse-append rounds' (last ∷ [])) t.after in
    after.1.last_size ∙ after_size graph nodes (reverse rounds') after.0 after.2

pub none_left : (o : Option ℕ) → ((x : ℕ) → o ≡ Some x → ⊥) → o ≡ None
none_left None h = refl
none_left (Some x) h = absurd (h x refl)

-- between two visits of one node, no arc stands twice
pub seen_once : (graph : List Arc) (nodes from i first : ℕ) (walk : List ℕ) (seen : List (Option ℕ))
    → get_or seen (arc_at graph (get_or walk i 0)).to None ≡ Some first
    → Seen graph nodes from walk i seen → (p q : ℕ) → first ≤ p → p < q → q < i + 1 → get_or walk p 0 ≢ get_or walk q 0
seen_once graph nodes from i first walk seen again s = λ p q past rising below same.
    ⊎_elim
    (λ last.
    let to_same : (arc_at graph (get_or walk p 0)).to ≡ (arc_at graph (get_or walk i 0)).to = ap (λ k. (arc_at graph k).to)
    (same ∙ ap (λ n. get_or walk n 0) last) in
    let h : Some (p + 1) ≡ Some first = sym (s.marked p (omega arith)) ∙ ap (λ u. get_or seen u None) to_same ∙ again in
    let e : p + 1 ≡ first = cc in omega arith)
    (λ not_last.
    let to_same : (arc_at graph (get_or walk p 0)).to ≡ (arc_at graph (get_or walk q 0)).to = ap (λ k. (arc_at graph k).to) same in
    let h : Some (p + 1) ≡ Some (q + 1) = sym (s.marked p (omega arith)) ∙ ap (λ u. get_or seen u None) to_same ∙ s.marked q (omega arith) in
    let e : p + 1 ≡ q + 1 = cc in omega arith)
    (cases_eq q i)

pub part_once : (walk : List ℕ) (first again : ℕ) → first < again → again ≤ length walk
    → ((p q : ℕ) → first ≤ p → p < q → q < again → get_or walk p 0 ≢ get_or walk q 0) → NoRepeat (drop first (take again walk))
part_once walk first again lt le once = λ p q rising below same.
    let size : length (drop first (take again walk)) ≡ again - first = omega (arith, length-drop first (take again walk), length-take-le again walk le) in
    let at_p : get_or (drop first (take again walk)) p 0 ≡ get_or walk (first + p) 0 = get_or-drop first (take again walk) p 0
    ∙ get_or-take again walk (first + p) 0 (omega arith) in
    let at_q : get_or (drop first (take again walk)) q 0 ≡ get_or walk (first + q) 0 = get_or-drop first (take again walk) q 0
    ∙ get_or-take again walk (first + q) 0 (omega arith) in
    once (first + p) (first + q) (omega arith) (omega arith) (omega arith) (sym at_p ∙ same ∙ at_q)
