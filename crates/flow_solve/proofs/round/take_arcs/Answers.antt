use Rattle.std.proofs.Common.{◌+◌, ℤ, ◌+ℤ◌, ◌<ℤ◌, ◌≤ℤ◌, arith, set, ◌∙◌, ap, refl}
use Rattle.std.proofs.lemmas.Int.{ints}
use Rattle.flow_solve.specs.Walk.{arc_at}
use Rattle.flow_solve.specs.machine.Rounds.{at}
use Rattle.flow_solve.proofs.PartLemmas.{part_taken, part_passed, part_same}
use Rattle.flow_solve.proofs.round.take_arcs.Goals as goal
use Rattle.flow_solve.proofs.round.take_arcs.Goals.{then-length-lengths, else-length-lengths}

pub loop-k-preserved : goal.loop-k-preserved
loop-k-preserved c =
    let graph = c.args.graph.now in
    let old = c.args.old.now in
    let n = c.loop-k.k in
    let nodes = c.args.nodes in
    let arc = arc_at graph n in
    let z : ℤ = at old arc.from +ℤ arc.length in
    elim c.if-length-lengths.branch [
      | then-length-lengths w ↦
          let above : at c.loop-k.lengths arc.to <ℤ z = omega (arith, ints, w.if-length-lengths.true, c.gone_on-length.ensures) in
          part_same graph (n + 1) nodes old _ _ _ _ _ _ w.last-is
          (w.lengths-is ∙ ap (set c.loop-k.lengths arc.to) (omega (arith, ints, c.gone_on-length.ensures))) w.raised-is
          (part_taken graph n nodes old c.loop-k.last c.loop-k.lengths c.loop-k.raised z c.requires.graph c.loop-k-test.true refl above c.loop-k.invariant)
      | else-length-lengths w ↦
          let within : z ≤ℤ at c.loop-k.lengths arc.to = omega (arith, ints, w.if-length-lengths.false, c.gone_on-length.ensures) in
          part_same graph (n + 1) nodes old _ _ _ _ _ _ w.last-is w.lengths-is w.raised-is
          (part_passed graph n nodes old c.loop-k.last c.loop-k.lengths c.loop-k.raised within c.loop-k.invariant)
    ]
