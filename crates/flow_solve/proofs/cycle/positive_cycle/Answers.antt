use Rattle.std.proofs.Common.{ℕ, slice_index, ◌≢◌, List, ◌+◌, ◌-◌, ◌≡◌, ◌<◌, ◌≤◌, length, take, drop, subst, sym, ap, ◌∙◌, arith}
use Rattle.std.proofs.lemmas.List.{drop-take}
use Rattle.flow_solve.specs.Walk.{at, IsWalk, IsPositiveCycle, NoRepeat}
use Rattle.flow_solve.proofs.TraceLemmas.{closed_part, part_once}
use Rattle.flow_solve.proofs.cycle.positive_cycle.Goals as goal

part_is : (walk : List ℕ) (first again : ℕ) → first < again → drop first (take again walk) ≡ take (again - first) (drop first walk)
part_is walk first again lt =
    let e : again ≡ first + (again - first) = omega arith in
    ap (λ n. drop first (take n walk)) e ∙ drop-take first (again - first) walk

pub returns-clause-cycle : goal.returns-clause-cycle
returns-clause-cycle c =
    let graph = c.args.graph.now in
    let walk = c.in_ok-from.field-0.walk.items in
    let from = c.in_ok-from.field-0.from in
    let first = c.repeated-first.result.0 in
    let again = c.repeated-first.result.1 in
    let seen = subst (λ (l : List ℕ). (again ≤ length l) × ((u : ℕ) × IsWalk graph from (take first l) u
    × IsWalk graph from (take again l) u)) c.deref.ensures.value (c.repeated-first.ensures.within, c.repeated-first.ensures.same) in
    let closed = closed_part graph from seen.1.0 c.args.to c.args.nodes first again
    (at c.args.rounds.lengths.items c.args.to) walk c.in_ok-from.ensures.walk c.repeated-first.ensures.rises seen.0 seen.1.1 seen.1.2
    (omega (arith, c.in_ok-from.ensures.arcs, c.requires.count)) c.in_ok-from.ensures.length c.requires.shorter in
    subst (IsPositiveCycle graph) (part_is walk first again c.repeated-first.ensures.rises
    ∙ ap (λ (l : List ℕ). take (again - first) (drop first l)) (sym c.deref-2.ensures.value) ∙ sym c.in_ok-cycle.ensures.items) closed

pub returns-clause-once : goal.returns-clause-once
returns-clause-once c =
    let walk = c.in_ok-from.field-0.walk.items in
    let first = c.repeated-first.result.0 in
    let again = c.repeated-first.result.1 in
    let seen = subst (λ (l : List ℕ). (again ≤ length l) × ((p q : ℕ) → first ≤ p → p < q → q < again
    → slice_index l p ≢ slice_index l q)) c.deref.ensures.value (c.repeated-first.ensures.within, c.repeated-first.ensures.once) in
    subst NoRepeat (part_is walk first again c.repeated-first.ensures.rises
    ∙ ap (λ (l : List ℕ). take (again - first) (drop first l)) (sym c.deref-2.ensures.value) ∙ sym c.in_ok-cycle.ensures.items)
    (part_once walk first again c.repeated-first.ensures.rises seen.0 seen.1)
