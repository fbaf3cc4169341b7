use Rattle.std.proofs.Common.{ℕ, ℤ, List, ◌+◌, ◌^◌, ◌≡◌, ◌<◌, ◌≤◌, ◌≤ℤ◌, ◌<ℤ◌, pos, length, reverse, Some, Option, None, IfSome, IfNone, subst, sym, ap, ◌∙◌, arith}
use Rattle.std.proofs.lemmas.Int.{ints}
use Rattle.std.proofs.lemmas.List.{length-reverse}
use Rattle.flow_solve.specs.Limits.{most_length}
use Rattle.flow_solve.specs.Walk.{at, HasPositiveCycle, IsGreatestLength}
use Rattle.flow_solve.specs.machine.Rounds.{IsRound}
use Rattle.flow_solve.proofs.TraceLemmas.{none_left}
use Rattle.flow_solve.proofs.RoundLemmas.{after_size, after_small}
use Rattle.flow_solve.proofs.SearchLemmas.{IsSearch, search_more, search_still, search_nothing}
use Rattle.flow_solve.proofs.walks.longest.Goals as goal
use Rattle.flow_solve.proofs.walks.longest.Goals.{After-drop-last-in_default}

pub next_round-requires-clause-size : goal.next_round-requires-clause-size
next_round-requires-clause-size c =
    ap length c.deref.ensures.value ∙ after_size c.args.arcs.now c.args.nodes (reverse c.loop.last.items) c.loop.lengths.items c.loop.invariant.after

pub next_round-requires-clause-from : goal.next_round-requires-clause-from
next_round-requires-clause-from c = λ v lt.
    subst (λ (l : List ℤ). pos 0 ≤ℤ at l v) (sym c.deref.ensures.value)
    (after_small c.args.arcs.now c.args.nodes (reverse c.loop.last.items) c.loop.lengths.items c.requires.graph c.loop.invariant.after v lt).0

pub next_round-requires-clause-to : goal.next_round-requires-clause-to
next_round-requires-clause-to c = λ v lt.
    let small = (after_small c.args.arcs.now c.args.nodes (reverse c.loop.last.items) c.loop.lengths.items c.requires.graph c.loop.invariant.after v lt).1 in
    let rounds : length (reverse c.loop.last.items) ≤ 2 ^ 10 = omega
    (arith, length-reverse c.loop.last.items, c.loop.invariant.count, c.loop-test.true, c.requires.graph.few_nodes) in
    subst (λ (l : List ℤ). at l v ≤ℤ pos most_length) (sym c.deref.ensures.value) (omega (arith, ints, small, rounds))

-- the last round changed nothing
ended : (c : After-drop-last-in_default) → ((length c.loop.lengths.items ≡ c.args.nodes)
    × ((v : ℕ) → v < c.args.nodes → IsGreatestLength c.args.nodes c.args.arcs.now v (at c.loop.lengths.items v))) × (HasPositiveCycle c.args.arcs.now → ⊥)
ended c =
    let old = c.loop.lengths.items in
    let found = c.in_ok-round.round in
    let round = subst (λ (l : List ℤ). IsRound c.args.arcs.now l found.last found.lengths.items) c.deref.ensures.value c.in_ok-round.ensures.round in
    let none : found.raised ≡ None = none_left found.raised c.in_default.not-Some in
    let still : (v : ℕ) → v < c.args.nodes → at found.lengths.items v ≡ at old v =
    subst (λ (l : List ℤ). (v : ℕ) → v < c.args.nodes → at found.lengths.items v ≡ at l v) c.deref.ensures.value
    (subst (λ (o : Option ℕ). IfNone o ((v : ℕ) → v < c.args.nodes → at found.lengths.items v ≡ at c.deref.result.now v)) none c.in_ok-round.ensures.still) in
    search_still c.args.arcs.now c.args.nodes c.loop.counter old found.lengths.items c.loop.last.items found.last c.loop.raised c.requires.graph c.loop.invariant round still

pub returns-in_default-clause-told : goal.returns-in_default-clause-told
returns-in_default-clause-told c = (ended c).0

pub returns-in_default-clause-cycle : goal.returns-in_default-clause-cycle
returns-in_default-clause-cycle c = (λ no. absurd no, (ended c).1)

pub loop-preserved : goal.loop-preserved
loop-preserved c =
    let old = c.loop.lengths.items in
    let found = c.in_ok-round.round in
    let nodes = c.args.nodes in
    let round = subst (λ (l : List ℤ). IsRound c.args.arcs.now l found.last found.lengths.items) c.deref.ensures.value c.in_ok-round.ensures.round in
    let risen : (c.in-Some.node < nodes) × (at c.deref.result.now c.in-Some.node <ℤ at found.lengths.items c.in-Some.node) =
    subst (λ (o : Option ℕ). IfSome o (λ v. (v < nodes) × (at c.deref.result.now v <ℤ at found.lengths.items v))) c.in-Some.is c.in_ok-round.ensures.raised in
    let up : at old c.in-Some.node <ℤ at found.lengths.items c.in-Some.node = subst
    (λ (l : List ℤ). at l c.in-Some.node <ℤ at found.lengths.items c.in-Some.node) c.deref.ensures.value risen.1 in
    subst (λ (l : List (List (Option ℕ))). IsSearch c.args.arcs.now nodes (c.loop.counter + 1) found.lengths.items l (Some c.in-Some.node))
    (sym c.in_ok-push.ensures.items)
    (search_more c.args.arcs.now nodes c.loop.counter c.in-Some.node old found.lengths.items c.loop.last.items found.last c.loop.raised c.requires.graph c.loop.invariant round risen.0 up)

pub returns-in_default-raised-clause-cycle : goal.returns-in_default-raised-clause-cycle
returns-in_default-raised-clause-cycle c =
    let none : c.loop.raised ≡ None = none_left c.loop.raised c.in_default-raised.not-Some in
    let search = subst
    (λ (o : Option ℕ). IsSearch c.args.arcs.now c.args.nodes c.loop.counter c.loop.lengths.items c.loop.last.items o) none c.loop.invariant in (
      λ no. absurd no,
      (search_nothing c.args.arcs.now c.args.nodes c.loop.counter c.loop.lengths.items c.loop.last.items c.requires.graph
          (omega (arith, c.loop-test.false)) search).1,
    )

pub returns-in_default-clause-simple : goal.returns-in_default-clause-simple
returns-in_default-clause-simple c = λ v lt.
    let small = after_small c.args.arcs.now c.args.nodes (reverse c.loop.last.items) c.loop.lengths.items c.requires.graph c.loop.invariant.after v lt in
    let rounds : length (reverse c.loop.last.items) ≤ 2 ^ 10 = omega
    (arith, length-reverse c.loop.last.items, c.loop.invariant.count, c.loop-test.true, c.requires.graph.few_nodes) in
    (small.0, omega (arith, ints, small.1, rounds))
