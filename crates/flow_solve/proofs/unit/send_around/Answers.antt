use Rattle.std.proofs.Common.{ℕ, List, ◌+◌, ◌≡◌, ◌≢◌, ◌<◌, ◌/◌, ◌%◌, eqb, get_or, length, subst, sym, ap, ◌∙◌, arith}
use Rattle.std.proofs.lemmas.Int.{ints}
use Rattle.flow_solve.specs.declared.arc.Arc.{Arc}
use Rattle.flow_solve.specs.Walk.{arc_at, IsPositiveCycle}
use Rattle.flow_solve.specs.machine.Residual.{residual}
use Rattle.flow_solve.specs.machine.Conserve.{need_after, hold_after}
use Rattle.flow_solve.proofs.TraceLemmas.{arc_in_walk}
use Rattle.flow_solve.proofs.ConserveLemmas.{conserves, balanced_from, need_small, hold_small}
use Rattle.flow_solve.proofs.MoveLemmas.{Pushed, pushed_start, pushed_more, pushed_all, walk_reads}
use Rattle.flow_solve.proofs.unit.send_around.Goals as goal

-- the cycle, in what the certificate leaves
cycle : (arcs graph : List Arc) (walk : List ℕ) → arcs ≡ graph → IsPositiveCycle arcs walk → IsPositiveCycle graph walk
cycle arcs graph walk e h = subst (λ (g : List Arc). IsPositiveCycle g walk) e h

pub loop-number-init : goal.loop-number-init
loop-number-init c =
    let net = c.args.net.now in
    let found = cycle c.args.arcs.now (residual (length net.weights) net.reads c.args.hold.now c.args.need.now) c.args.walk.now c.requires.arcs c.requires.cycle
    in (
      found.0,
      pushed_start net.weights net.reads c.args.hold.now c.args.need.now c.args.walk.now found.0 c.requires.holds c.requires.needs found.1
          (conserves net.weights net.reads c.args.hold.now c.args.need.now c.requires.net.order c.requires.balanced)
          (walk_reads (length net.weights) net.reads c.args.hold.now c.args.need.now found.0 c.args.walk.now found.1),
    )

pub bounds-arcs-number : goal.bounds-arcs-number
bounds-arcs-number c =
    arc_in_walk c.args.arcs.now c.requires.cycle.0 c.requires.cycle.0 c.loop-number.number-index c.args.walk.now c.requires.cycle.1 c.loop-number-test.true

pub send_unit-requires-clause-hold_place : goal.send_unit-requires-clause-hold_place
send_unit-requires-clause-hold_place c =
    let net = c.args.net.now in
    let n = c.loop-number.number-index in
    let found = cycle c.args.arcs.now
    (residual (length net.weights) net.reads c.args.hold.now c.args.need.now) c.args.walk.now c.requires.arcs c.requires.cycle in
    let pushed = c.loop-number.invariant.1 in
    let place : get_or c.args.walk.now n 0 / 4 < length net.reads = walk_reads
    (length net.weights) net.reads c.args.hold.now c.args.need.now found.0 c.args.walk.now found.1 n c.loop-number-test.true in
    omega (arith, place, pushed.hold_size)

pub send_unit-requires-clause-need_place : goal.send_unit-requires-clause-need_place
send_unit-requires-clause-need_place c =
    let net = c.args.net.now in
    let n = c.loop-number.number-index in
    let found = cycle c.args.arcs.now
    (residual (length net.weights) net.reads c.args.hold.now c.args.need.now) c.args.walk.now c.requires.arcs c.requires.cycle in
    let pushed = c.loop-number.invariant.1 in
    let place : get_or c.args.walk.now n 0 / 4 < length net.reads = walk_reads
    (length net.weights) net.reads c.args.hold.now c.args.need.now found.0 c.args.walk.now found.1 n c.loop-number-test.true in
    omega (arith, place, pushed.need_size)

pub send_unit-requires-clause-hold_small : goal.send_unit-requires-clause-hold_small
send_unit-requires-clause-hold_small c =
    let net = c.args.net.now in
    let n = c.loop-number.number-index in
    let found = cycle c.args.arcs.now
    (residual (length net.weights) net.reads c.args.hold.now c.args.need.now) c.args.walk.now c.requires.arcs c.requires.cycle in
    let pushed = c.loop-number.invariant.1 in
    let place : get_or c.args.walk.now n 0 / 4 < length net.reads = walk_reads
    (length net.weights) net.reads c.args.hold.now c.args.need.now found.0 c.args.walk.now found.1 n c.loop-number-test.true in
    omega (
      arith,
      pushed.hold_up (get_or c.args.walk.now n 0 / 4),
      hold_small net.weights net.reads c.args.hold.now c.args.need.now
          (get_or c.args.walk.now n 0 / 4) c.requires.net c.requires.balanced place
          (omega (arith, place, c.requires.holds)),
      c.requires.short,
      c.loop-number-test.true,
    )

pub send_unit-requires-clause-need_small : goal.send_unit-requires-clause-need_small
send_unit-requires-clause-need_small c =
    let net = c.args.net.now in
    let n = c.loop-number.number-index in
    let found = cycle c.args.arcs.now
    (residual (length net.weights) net.reads c.args.hold.now c.args.need.now) c.args.walk.now c.requires.arcs c.requires.cycle in
    let pushed = c.loop-number.invariant.1 in
    let place : get_or c.args.walk.now n 0 / 4 < length net.reads = walk_reads
    (length net.weights) net.reads c.args.hold.now c.args.need.now found.0 c.args.walk.now found.1 n c.loop-number-test.true in
    omega (
      arith,
      pushed.need_up (get_or c.args.walk.now n 0 / 4),
      need_small net.weights net.reads c.args.hold.now c.args.need.now
          (get_or c.args.walk.now n 0 / 4) c.requires.net c.requires.balanced place
          (omega (arith, place, c.requires.needs)),
      c.requires.short,
      c.loop-number-test.true,
    )

pub send_unit-requires-clause-needed : goal.send_unit-requires-clause-needed
send_unit-requires-clause-needed c =
    let net = c.args.net.now in
    let n = c.loop-number.number-index in
    let found = cycle c.args.arcs.now
    (residual (length net.weights) net.reads c.args.hold.now c.args.need.now) c.args.walk.now c.requires.arcs c.requires.cycle in
    let pushed = c.loop-number.invariant.1 in
    let place : get_or c.args.walk.now n 0 / 4 < length net.reads = walk_reads
    (length net.weights) net.reads c.args.hold.now c.args.need.now found.0 c.args.walk.now found.1 n c.loop-number-test.true in
    subst (λ (g : List Arc). (arc_at g (get_or c.args.walk.now n 0)).from ≢ (arc_at g (get_or c.args.walk.now n 0)).to → get_or c.args.walk.now n 0 % 4 ≡ 2
    → 0 < get_or c.loop-number.need (get_or c.args.walk.now n 0 / 4) 0) (sym c.requires.arcs)
    (pushed.needed n (omega arith) c.loop-number-test.true)

pub send_unit-requires-clause-held : goal.send_unit-requires-clause-held
send_unit-requires-clause-held c =
    let net = c.args.net.now in
    let n = c.loop-number.number-index in
    let found = cycle c.args.arcs.now
    (residual (length net.weights) net.reads c.args.hold.now c.args.need.now) c.args.walk.now c.requires.arcs c.requires.cycle in
    let pushed = c.loop-number.invariant.1 in
    let place : get_or c.args.walk.now n 0 / 4 < length net.reads = walk_reads
    (length net.weights) net.reads c.args.hold.now c.args.need.now found.0 c.args.walk.now found.1 n c.loop-number-test.true in
    subst (λ (g : List Arc). (arc_at g (get_or c.args.walk.now n 0)).from ≢ (arc_at g (get_or c.args.walk.now n 0)).to → get_or c.args.walk.now n 0 % 4 ≡ 3
    → 0 < get_or c.loop-number.hold (get_or c.args.walk.now n 0 / 4) 0) (sym c.requires.arcs)
    (pushed.held n (omega arith) c.loop-number-test.true)

pub loop-number-preserved : goal.loop-number-preserved
loop-number-preserved c =
    let net = c.args.net.now in
    let n = c.loop-number.number-index in
    let found = cycle c.args.arcs.now
    (residual (length net.weights) net.reads c.args.hold.now c.args.need.now) c.args.walk.now c.requires.arcs c.requires.cycle in
    let pushed = c.loop-number.invariant.1 in
    let place : get_or c.args.walk.now n 0 / 4 < length net.reads = walk_reads
    (length net.weights) net.reads c.args.hold.now c.args.need.now found.0 c.args.walk.now found.1 n c.loop-number-test.true in
    let walk = c.args.walk.now in
    let graph = residual (length net.weights) net.reads c.args.hold.now c.args.need.now in
    let number = get_or walk n 0 in
    let more = pushed_more net.weights net.reads c.args.hold.now c.args.need.now walk c.loop-number.invariant.0 n c.loop-number.hold c.loop-number.need c.requires.net.order c.requires.holds c.requires.needs c.requires.once c.loop-number-test.true place pushed in
    let hold_is : c.send_unit.new.hold ≡ hold_after (eqb (arc_at graph number).from (arc_at graph number).to) (number % 4) (number / 4) c.loop-number.hold =
    c.send_unit.ensures.hold ∙ ap (λ (g : List Arc). hold_after (eqb (arc_at g number).from (arc_at g number).to) (number % 4)
    (number / 4) c.loop-number.hold) c.requires.arcs in
    let need_is : c.send_unit.new.need ≡ need_after (eqb (arc_at graph number).from (arc_at graph number).to) (number % 4) (number / 4) c.loop-number.need =
    c.send_unit.ensures.need ∙ ap (λ (g : List Arc). need_after (eqb (arc_at g number).from (arc_at g number).to) (number % 4)
    (number / 4) c.loop-number.need) c.requires.arcs in (
      c.loop-number.invariant.0,
      subst (λ (l : List ℕ). Pushed net.weights net.reads c.args.hold.now c.args.need.now walk c.loop-number.invariant.0 (n + 1) l c.send_unit.new.need)
          (sym hold_is)
          (subst (λ (l : List ℕ). Pushed net.weights net.reads c.args.hold.now c.args.need.now walk c.loop-number.invariant.0 (n + 1)
          (hold_after (eqb (arc_at graph number).from (arc_at graph number).to) (number % 4) (number / 4) c.loop-number.hold) l) (sym need_is) more),
    )

pub returns-clause-balanced : goal.returns-clause-balanced
returns-clause-balanced c =
    let net = c.args.net.now in
    let all = pushed_all net.weights net.reads c.args.hold.now c.args.need.now c.args.walk.now c.loop-number.invariant.0 c.loop-number.number-index c.loop-number.hold c.loop-number.need c.loop-number-test.false c.loop-number.invariant.1 in
    balanced_from net.weights net.reads c.loop-number.hold c.loop-number.need all.0

pub returns-clause-more : goal.returns-clause-more
returns-clause-more c =
    let net = c.args.net.now in
    let all = pushed_all net.weights net.reads c.args.hold.now c.args.need.now c.args.walk.now c.loop-number.invariant.0 c.loop-number.number-index c.loop-number.hold c.loop-number.need c.loop-number-test.false c.loop-number.invariant.1 in
    let found = cycle c.args.arcs.now
    (residual (length net.weights) net.reads c.args.hold.now c.args.need.now) c.args.walk.now c.requires.arcs c.requires.cycle in
    omega (arith, ints, all.1, found.2)
