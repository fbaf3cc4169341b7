use Rattle.std.proofs.Common.{◌≡◌, ℕ, ◌<◌, ◌++◌, [], ◌∷◌, ◌&&◌, false, length, slice_index_or, sym, ◌∙◌, ap, arith, add-one}
use Rattle.std.proofs.lemmas.List.{length-map}
use Rattle.soda_ir.specs.Counts.{is_live, is_output, output_number, tensor_reads}
use Rattle.soda_ir.specs.Points.{listed}
use Rattle.soda_ir.specs.Program.{plain, plain_tensor}
use Rattle.soda_ir.proofs.Counted.{live_marks, needed_wanted, outputs_wanted}
use Rattle.soda_ir.proofs.Lists.{known_list, length-listed}
use Rattle.soda_ir.proofs.live.live_tensors.Goals as goal

pub all_reads-requires : goal.all_reads-requires
all_reads-requires c = c.requires

pub outputs-requires : goal.outputs-requires
outputs-requires c =
    omega (arith, length-map c.args.parts.now.tensors plain_tensor, c.requires.few_tensors)

pub outputs_needed-requires : goal.outputs_needed-requires
outputs_needed-requires c =
    omega (arith, length-map c.args.parts.now.tensors plain_tensor, c.requires.few_tensors)

pub loop-later-init : goal.loop-later-init
loop-later-init c =
    let p = plain c.args.parts.now in
    let m = length-map c.args.parts.now.tensors plain_tensor in
    record {
      live = c.new-live.ensures.items;
      wanted = outputs_wanted p c.in_ok-wanted.wanted.items (c.in_ok-wanted.ensures ∙ ap (λ n. listed (is_output p) n) (sym m));
      each = ap length c.in_ok-wanted.ensures ∙ length-listed _ _ ∙ sym m;
    }

pub reached-requires-clause-few : goal.reached-requires-clause-few
reached-requires-clause-few c =
    let p = plain c.args.parts.now in
    let m = length-map c.args.parts.now.tensors plain_tensor in
    let few = c.requires.few_tensors in
    let long : length c.deref.result.now ≡ length c.args.parts.now.tensors = ap length (c.deref.ensures.value ∙ c.in_ok-graph.ensures) ∙ length-listed (tensor_reads p) (length c.args.parts.now.tensors) in
    omega (arith, long, m, few)

pub reached-requires-clause-each : goal.reached-requires-clause-each
reached-requires-clause-each c =
    let p = plain c.args.parts.now in
    let m = length-map c.args.parts.now.tensors plain_tensor in
    let long : length c.deref.result.now ≡ length c.args.parts.now.tensors = ap length (c.deref.ensures.value ∙ c.in_ok-graph.ensures) ∙ length-listed (tensor_reads p) (length c.args.parts.now.tensors) in
    ap length c.deref-in-loop-later.ensures.value ∙ c.loop-later.invariant.each ∙ m ∙ sym long

pub loop-later-preserved : goal.loop-later-preserved
loop-later-preserved c =
    let p = plain c.args.parts.now in
    let n = length p.tensors in
    let l = c.loop-later.later in
    let inv = c.loop-later.invariant in
    let marks = c.in_ok-marks.marks.items in
    let m = length-map c.args.parts.now.tensors plain_tensor in
    let graph : c.in_ok-graph.graph.items ≡ listed (tensor_reads p) n = c.in_ok-graph.ensures ∙ ap (λ k. listed (tensor_reads p) k) (sym m) in
    let long : length c.deref.result.now ≡ length c.args.parts.now.tensors = ap length (c.deref.ensures.value ∙ c.in_ok-graph.ensures) ∙ length-listed (tensor_reads p) (length c.args.parts.now.tensors) in
    let live : (y : ℕ) → y < n → slice_index_or marks y false ≡ is_live p l y = live_marks p l c.deref.result.now c.deref-in-loop-later.result.now marks (c.deref.ensures.value ∙ graph) (λ x. ap (λ xs. slice_index_or xs x false) c.deref-in-loop-later.ensures.value ∙ inv.wanted x) c.in_ok-marks.ensures.1 in
    let marked : marks ≡ listed (is_live p l) (length c.args.parts.now.tensors) = known_list (is_live p l) (length c.args.parts.now.tensors) marks false (c.in_ok-marks.ensures.0 ∙ long) (λ y h. live y (omega (arith, m))) in
    let all = λ (k : ℕ). listed (is_live p k) (length c.args.parts.now.tensors) in
    record {
      live = c.in_ok-push.ensures.items ∙ ap (λ xs. xs ++ c.from_vec.result ∷ []) inv.live ∙ ap (λ x. listed all l ++ x ∷ []) (c.from_vec.ensures ∙ marked) ∙ sym (ap (listed all) (add-one l));
      wanted = needed_wanted p l c.deref-in-loop-later-2.result.now c.in_ok-wanted-2.wanted.items (λ y b. ap (λ xs. slice_index_or xs y false) c.deref-in-loop-later-2.ensures.value ∙ live y b) (c.in_ok-wanted-2.ensures ∙ ap (λ k. listed (λ x. is_output p x && slice_index_or c.deref-in-loop-later-2.result.now (output_number p x) false) k) (sym m));
      each = ap length c.in_ok-wanted-2.ensures ∙ length-listed _ _ ∙ sym m;
    }

pub returns : goal.returns
returns c =
    let p = plain c.args.parts.now in
    let all = λ (k : ℕ). listed (is_live p k) (length c.args.parts.now.tensors) in
    let end : c.loop-later.later ≡ c.args.parts.now.iterate = omega arith in
    c.loop-later.invariant.live ∙ ap (listed all) end
