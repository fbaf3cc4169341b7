use Rattle.std.proofs.Common.{Some, get_or, set, subst, sym, arith}
use Rattle.flow_solve.proofs.RoundLemmas.{arc_in}
use Rattle.flow_solve.proofs.TraceLemmas.{Seen, seen_start, seen_more, seen_again, seen_all, seen_once, arc_in_walk, none_left}
use Rattle.flow_solve.proofs.cycle.repeated.Goals as goal

pub loop-i-init : goal.loop-i-init
loop-i-init c =
    subst (λ l. Seen c.args.graph.now c.args.nodes c.args.from c.args.walk.now 0 (set l c.args.from (Some 0))) (sym c.requires.seen)
    (seen_start c.args.graph.now c.args.nodes c.args.from c.args.walk.now c.requires.from)

pub bounds-graph-k : goal.bounds-graph-k
bounds-graph-k c =
    arc_in_walk c.args.graph.now c.args.from c.requires.walk.0 c.loop-i.i c.args.walk.now c.requires.walk.1 c.loop-i-test.true

pub returns-in-Some-clause-rises : goal.returns-in-Some-clause-rises
returns-in-Some-clause-rises c =
    (seen_again c.args.graph.now c.args.nodes c.args.from c.requires.walk.0 c.loop-i.i c.in-Some.first c.args.walk.now c.loop-i.seen c.requires.walk.1 c.loop-i-test.true c.in-Some.is c.loop-i.invariant).0

pub returns-in-Some-clause-same : goal.returns-in-Some-clause-same
returns-in-Some-clause-same c =
    let again = seen_again c.args.graph.now c.args.nodes c.args.from c.requires.walk.0 c.loop-i.i c.in-Some.first c.args.walk.now c.loop-i.seen c.requires.walk.1 c.loop-i-test.true c.in-Some.is c.loop-i.invariant in
    (again.1, again.2, again.3)

pub loop-i-preserved : goal.loop-i-preserved
loop-i-preserved c =
    let graph = c.args.graph.now in
    let walk = c.args.walk.now in
    let i = c.loop-i.i in
    let k_in = arc_in_walk graph c.args.from c.requires.walk.0 i walk c.requires.walk.1 c.loop-i-test.true in
    seen_more graph c.args.nodes c.args.from c.requires.walk.0 i walk c.loop-i.seen c.requires.walk.1 c.loop-i-test.true
    (arc_in c.args.nodes graph (get_or walk i 0) c.requires.graph k_in).1 (none_left _ c.in_default.not-Some) c.loop-i.invariant

pub unreachable-requires : goal.unreachable-requires
unreachable-requires c =
    seen_all c.args.graph.now c.args.nodes c.args.from c.loop-i.i c.args.walk.now c.loop-i.seen
    (omega (arith, c.requires.long, c.loop-i-test.false)) c.loop-i.invariant

pub returns-in-Some-clause-once : goal.returns-in-Some-clause-once
returns-in-Some-clause-once c =
    seen_once c.args.graph.now c.args.nodes c.args.from c.loop-i.i c.in-Some.first c.args.walk.now c.loop-i.seen c.in-Some.is c.loop-i.invariant
