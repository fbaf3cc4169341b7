use Rattle.std.proofs.Common.{◌≡◌, ◌&&◌, ◌||◌, not, false, length, slice_index_or, sym, ◌∙◌, ap}
use Rattle.soda_ir.specs.Counts.{reads_in, some_below}
use Rattle.soda_ir.proofs.Reached.{written_back}
use Rattle.soda_ir.proofs.live.next_marks.Goals as goal

pub returns : goal.returns
returns c =
    let same : c.deref_mut.result.now ≡ c.args.marks.now = c.deref_mut.ensures.value ∙ c.in_ok-next.ensures.items in
    let long : length c.mark_read.new.next ≡ length c.in_ok-next.next.items = c.mark_read.auto.next ∙ ap length c.deref_mut.ensures.value in
    let back = written_back c.mark_read.new.next c.in_ok-next.next.items c.in_ok-next.next.len long (c.in_ok-next.ensures.len ∙ sym (ap length c.in_ok-next.ensures.items)) in
    (ap length back ∙ long ∙ ap length c.in_ok-next.ensures.items, λ y l. ap (λ xs. slice_index_or xs y false) back ∙ c.mark_read.ensures y (rw same l) ∙ ap (λ xs. slice_index_or xs y false || some_below (λ x. (slice_index_or c.args.marks.now x false && not (slice_index_or c.args.before.now x false)) && reads_in c.args.graph.now x y) (length c.args.graph.now)) same)
