use Rattle.std.proofs.Common.{◌≡◌, Decides, false, length, slice_index_or, sym, ◌∙◌, ap, arith}
use Rattle.std.proofs.lemmas.Slice.Eq.{slice_eq-Decides}
use Rattle.std.specs.Cmp.{booleans_Decides}
use Rattle.soda_ir.specs.Counts.{is_reached, reads_in}
use Rattle.soda_ir.proofs.Reached.{behind_none, last_reached, lent, reached_none, round, round_behind}
use Rattle.soda_ir.proofs.live.reached.Goals as goal

pub loop-round-init : goal.loop-round-init
loop-round-init c = record {
  each = ap length c.in_ok-marks.ensures.items ∙ c.requires.each;
  reached = λ y l. ap (λ xs. slice_index_or xs y false) c.in_ok-marks.ensures.items ∙ sym (reached_none (reads_in c.args.graph.now) (length c.args.graph.now) (λ x. slice_index_or c.args.wanted.now x false) y);
  behind = λ y l. behind_none (reads_in c.args.graph.now) (length c.args.graph.now) y c.new-before.result.items _ c.new-before.ensures.items;
}

pub loop-round-preserved : goal.loop-round-preserved
loop-round-preserved c =
    let n = length c.args.graph.now in
    let r = reads_in c.args.graph.now in
    let inv = c.loop-round.invariant in
    let step = lent r n c.loop-round.before.items c.deref.result.now c.loop-round.marks.items c.deref-in-loop-round.result.now c.in_ok-next.next.items c.deref.ensures.value c.deref-in-loop-round.ensures.value inv.each c.in_ok-next.ensures.1 in
    record {
      each = c.in_ok-next.ensures.0 ∙ ap length c.deref-in-loop-round.ensures.value ∙ inv.each;
      reached = round r n c.loop-round.round (λ x. slice_index_or c.args.wanted.now x false) c.loop-round.before.items c.loop-round.marks.items c.in_ok-next.next.items inv.reached inv.behind step;
      behind = round_behind r n c.loop-round.before.items c.loop-round.marks.items c.in_ok-next.next.items inv.behind step;
    }

pub returns-then-eq : goal.returns-then-eq
returns-then-eq c =
    let n = length c.args.graph.now in
    let r = reads_in c.args.graph.now in
    let inv = c.loop-round.invariant in
    let step = lent r n c.loop-round.before.items c.deref.result.now c.loop-round.marks.items c.deref-in-loop-round.result.now c.in_ok-next.next.items c.deref.ensures.value c.deref-in-loop-round.ensures.value inv.each c.in_ok-next.ensures.1 in
    let decides : Decides c.eq.result (c.as_slice.result.now ≡ c.as_slice-in-loop-round.result.now) = slice_eq-Decides booleans_Decides _ _ _ c.eq.ensures in
    let still : c.in_ok-next.next.items ≡ c.loop-round.marks.items = sym c.as_slice.ensures.value ∙ decides.0 c.if-eq.true ∙ c.as_slice-in-loop-round.ensures.value in
    (c.in_ok-next.ensures.0 ∙ ap length c.deref-in-loop-round.ensures.value ∙ inv.each, last_reached r n c.loop-round.round (λ x. slice_index_or c.args.wanted.now x false) c.loop-round.marks.items c.in_ok-next.next.items (omega arith) still inv.reached (round r n c.loop-round.round (λ x. slice_index_or c.args.wanted.now x false) c.loop-round.before.items c.loop-round.marks.items c.in_ok-next.next.items inv.reached inv.behind step))

pub returns : goal.returns
returns c =
    let n = length c.args.graph.now in
    let e : c.loop-round.round ≡ n = omega arith in
    (c.loop-round.invariant.each, λ y l. c.loop-round.invariant.reached y l ∙ ap (λ k. is_reached (reads_in c.args.graph.now) n (λ x. slice_index_or c.args.wanted.now x false) k y) e)
