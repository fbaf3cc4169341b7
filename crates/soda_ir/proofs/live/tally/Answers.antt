use Rattle.std.proofs.Common.{◌≡◌, ℕ, ◌+◌, ◌<◌, ◌&&◌, not, false, length, map, slice_index_or, sym, ◌∙◌, ap, arith, refl, add_assoc, add-one, if◌then◌else◌, add-zero}
use Rattle.std.proofs.lemmas.List.{length-map}
use Rattle.soda_ir.specs.Counts.{count_below, distinct_count, is_input, is_live, is_live_statement, is_output, live_count, output_number, read_count, sum_below, tensor_reads}
use Rattle.soda_ir.specs.Points.{listed}
use Rattle.soda_ir.specs.Program.{plain, plain_tensor}
use Rattle.soda_ir.proofs.Counted.{live_marks, live_reads, live_statements, needed_wanted, outputs_wanted}
use Rattle.soda_ir.proofs.Lists.{length-listed}
use Rattle.soda_ir.proofs.live.tally.Goals as goal

pub loop-later-init : goal.loop-later-init
loop-later-init c =
    let p = plain c.args.parts.now in
    let m = length-map c.args.parts.now.tensors plain_tensor in
    let few = c.requires.few_tensors in
    record {
      live = c.input_count-live.ensures.value ∙ ap (λ n. count_below (is_input p) n) (sym m) ∙ sym (add-zero _);
      reads = refl;
      few_live = omega (arith, c.input_count-live.ensures.most);
      few_reads = omega arith;
      wanted = outputs_wanted p c.in_ok-wanted.wanted.items (c.in_ok-wanted.ensures ∙ ap (λ n. listed (is_output p) n) (sym m));
      each = ap length c.in_ok-wanted.ensures ∙ length-listed _ _ ∙ sym m;
    }

pub reached-requires-clause-few : goal.reached-requires-clause-few
reached-requires-clause-few c =
    let p = plain c.args.parts.now in
    let m = length-map c.args.parts.now.tensors plain_tensor in
    let few = c.requires.few_tensors in
    let long : length c.deref-in-loop-later.result.now ≡ length c.args.parts.now.tensors = ap length (c.deref-in-loop-later.ensures.value ∙ c.in_ok-graph.ensures) ∙ length-listed (tensor_reads p) (length c.args.parts.now.tensors) in
    omega (arith, long, m, few)

pub reached-requires-clause-each : goal.reached-requires-clause-each
reached-requires-clause-each c =
    let p = plain c.args.parts.now in
    let m = length-map c.args.parts.now.tensors plain_tensor in
    let long : length c.deref-in-loop-later.result.now ≡ length c.args.parts.now.tensors = ap length (c.deref-in-loop-later.ensures.value ∙ c.in_ok-graph.ensures) ∙ length-listed (tensor_reads p) (length c.args.parts.now.tensors) in
    ap length c.deref-in-loop-later-2.ensures.value ∙ c.loop-later.invariant.each ∙ m ∙ sym long

pub loop-later-preserved : goal.loop-later-preserved
loop-later-preserved c =
    let p = plain c.args.parts.now in
    let n = length p.tensors in
    let l = c.loop-later.later in
    let inv = c.loop-later.invariant in
    let marks = c.in_ok-marks.marks.items in
    let m = length-map c.args.parts.now.tensors plain_tensor in
    let few = c.requires.few_tensors in
    let graph : c.in_ok-graph.graph.items ≡ listed (tensor_reads p) n = c.in_ok-graph.ensures ∙ ap (λ k. listed (tensor_reads p) k) (sym m) in
    let live : (y : ℕ) → y < n → slice_index_or marks y false ≡ is_live p l y = live_marks p l c.deref-in-loop-later.result.now c.deref-in-loop-later-2.result.now marks (c.deref-in-loop-later.ensures.value ∙ graph) (λ x. ap (λ xs. slice_index_or xs x false) c.deref-in-loop-later-2.ensures.value ∙ inv.wanted x) c.in_ok-marks.ensures.1 in
    let F : ℕ → ℕ = λ j. count_below (is_live_statement p j) n in
    let G : ℕ → ℕ = λ j. sum_below (λ x. if is_live_statement p j x then distinct_count (tensor_reads p x) else 0) n in
    let counted : c.statement_count-live.result ≡ F l = c.statement_count-live.ensures.value ∙ ap (λ k. count_below (λ x. not (is_input p x) && slice_index_or c.deref-in-loop-later-3.result.now x false) k) (sym m) ∙ ap (λ ms. count_below (λ x. not (is_input p x) && slice_index_or ms x false) n) c.deref-in-loop-later-3.ensures.value ∙ live_statements p l marks live in
    let summed : c.statement_reads-reads.result ≡ G l = c.statement_reads-reads.ensures.value ∙ ap (λ k. sum_below (λ x. if not (is_input p x) && slice_index_or c.deref-in-loop-later-4.result.now x false then slice_index_or c.deref-in-loop-later-5.result.now x 0 else 0) k) (sym m) ∙ ap (λ ms. sum_below (λ x. if not (is_input p x) && slice_index_or ms x false then slice_index_or c.deref-in-loop-later-5.result.now x 0 else 0) n) c.deref-in-loop-later-4.ensures.value ∙ live_reads p l c.in_ok-graph.graph.items marks c.deref-in-loop-later-5.result.now graph (c.deref-in-loop-later-5.ensures.value ∙ c.in_ok-sizes.ensures ∙ ap (λ xs. map distinct_count xs) c.deref.ensures.value) live in
    record {
      live = ap (λ k. k + c.statement_count-live.result) inv.live ∙ ap (λ k. count_below (is_input p) n + sum_below F l + k) counted ∙ add_assoc (count_below (is_input p) n) (sum_below F l) (F l) ∙ ap (λ k. count_below (is_input p) n + k) (sym (ap (sum_below F) (add-one l)));
      reads = ap (λ k. k + c.statement_reads-reads.result) inv.reads ∙ ap (λ k. sum_below G l + k) summed ∙ sym (ap (sum_below G) (add-one l));
      few_live = omega (arith, inv.few_live, c.statement_count-live.ensures.most, m, few);
      few_reads = omega (arith, inv.few_reads, c.statement_reads-reads.ensures.most);
      wanted = needed_wanted p l c.deref-in-loop-later-6.result.now c.in_ok-wanted-2.wanted.items (λ y b. ap (λ xs. slice_index_or xs y false) c.deref-in-loop-later-6.ensures.value ∙ live y b) (c.in_ok-wanted-2.ensures ∙ ap (λ k. listed (λ x. is_output p x && slice_index_or c.deref-in-loop-later-6.result.now (output_number p x) false) k) (sym m));
      each = ap length c.in_ok-wanted-2.ensures ∙ length-listed _ _ ∙ sym m;
    }

pub all_reads-requires : goal.all_reads-requires
all_reads-requires c = c.requires

pub input_count-live-requires : goal.input_count-live-requires
input_count-live-requires c =
    omega (arith, length-map c.args.parts.now.tensors plain_tensor, c.requires.few_tensors)

pub outputs-requires : goal.outputs-requires
outputs-requires c =
    omega (arith, length-map c.args.parts.now.tensors plain_tensor, c.requires.few_tensors)

pub statement_count-live-requires : goal.statement_count-live-requires
statement_count-live-requires c =
    omega (arith, length-map c.args.parts.now.tensors plain_tensor, c.requires.few_tensors)

pub statement_reads-reads-requires : goal.statement_reads-reads-requires
statement_reads-reads-requires c =
    omega (arith, length-map c.args.parts.now.tensors plain_tensor, c.requires.few_tensors)

pub outputs_needed-requires : goal.outputs_needed-requires
outputs_needed-requires c =
    omega (arith, length-map c.args.parts.now.tensors plain_tensor, c.requires.few_tensors)

pub overflow_add-live : goal.overflow_add-live
overflow_add-live c =
    omega (arith, c.loop-later.invariant.few_live, c.statement_count-live.ensures.most, length-map c.args.parts.now.tensors plain_tensor, c.requires.few_tensors, c.requires.few_iterations)

pub overflow_add-reads : goal.overflow_add-reads
overflow_add-reads c =
    omega (arith, c.loop-later.invariant.few_reads, c.statement_reads-reads.ensures.most, c.requires.few_iterations)

pub returns-clause-live : goal.returns-clause-live
unfolding live_count
returns-clause-live c =
    let p = plain c.args.parts.now in
    let e : c.loop-later.later ≡ c.args.parts.now.iterate = omega arith in
    c.loop-later.invariant.live
    ∙ ap (λ k. count_below (is_input p) (length p.tensors) + sum_below (λ j. count_below (is_live_statement p j) (length p.tensors)) k) e

pub returns-clause-reads : goal.returns-clause-reads
unfolding read_count
returns-clause-reads c =
    let p = plain c.args.parts.now in
    let e : c.loop-later.later ≡ c.args.parts.now.iterate = omega arith in
    c.loop-later.invariant.reads
    ∙ ap (λ k. sum_below (λ j. sum_below (λ x. if is_live_statement p j x then distinct_count (tensor_reads p x) else 0) (length p.tensors)) k) e
