use Rattle.std.proofs.Common.{length, subst, sym, arith}
use Rattle.flow_solve.specs.Walk.{arc_at}
use Rattle.flow_solve.specs.machine.Rounds.{at}
use Rattle.flow_solve.proofs.TraceLemmas.{Traces, trace_taken, trace_kept, trace_size}
use Rattle.flow_solve.proofs.trace.trace.Goals as goal

pub arc_to-requires : goal.arc_to-requires
arc_to-requires c =
    let size = trace_size c.args.graph.now c.args.nodes c.loop-arcs.last.items c.pop.new.self.items c.in-Some.arcs c.loop-arcs.walk.items c.loop-arcs.from c.args.to _ _ c.in-Some.ensures.items c.loop-arcs.invariant in
    omega (arith, size, c.loop-arcs.invariant.in_range)

pub loop-arcs-preserved : goal.loop-arcs-preserved
loop-arcs-preserved c =
    subst (λ l. Traces c.args.graph.now c.args.nodes c.pop.new.self.items l (arc_at c.args.graph.now c.in-Some-arc_to.k).from c.args.to
    (at c.args.rounds.lengths.items c.args.to) (length c.args.rounds.last.items)) (sym c.in_ok-push.ensures.items)
    (trace_taken c.args.graph.now c.args.nodes c.loop-arcs.last.items c.pop.new.self.items c.in-Some.arcs c.loop-arcs.walk.items c.loop-arcs.from c.args.to _ _ c.in-Some-arc_to.k c.requires.graph c.in-Some.ensures.items (sym c.in-Some-arc_to.ensures) c.loop-arcs.invariant)

pub loop-arcs-preserved-in_default-arc_to : goal.loop-arcs-preserved-in_default-arc_to
loop-arcs-preserved-in_default-arc_to c =
    trace_kept c.args.graph.now c.args.nodes c.loop-arcs.last.items c.pop.new.self.items c.in-Some.arcs c.loop-arcs.walk.items c.loop-arcs.from c.args.to _ _ c.in-Some.ensures.items (sym c.in_default-arc_to.ensures) c.loop-arcs.invariant
