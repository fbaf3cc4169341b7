use Rattle.std.proofs.Common.{◌≡◌, ℕ, ◌<◌, ◌++◌, ◌∷◌, [], Some, None, true, false, length, slice_index_or, sym, ◌∙◌, ap, arith}
use Rattle.std.proofs.lemmas.List.{length-map, length-set}
use Rattle.soda_ir.specs.declared.program.Parts.{Parts}
use Rattle.soda_ir.specs.Program.{plain, plain_tensor}
use Rattle.soda_ir.proofs.CallerLemmas.{length-listed}
use Rattle.time_stages.specs.Placing.{first_below, is_next, is_there, placed_in, placing_order}
use Rattle.time_stages.proofs.Order.{found_below, placed_all, placed_none}
use Rattle.time_stages.proofs.Steps.{marked_next, marks_first, step_marks, step_order}
use Rattle.time_stages.proofs.placing.placing_order.Goals as goal

pub loop-step-init : goal.loop-step-init
loop-step-init c =
    let q = c.parts-parts.result.now in
    let p = plain q in
    let long : length p.tensors ≡ length q.tensors = length-map q.tensors plain_tensor in
    record {
      order = c.new-order.ensures.items ∙ sym (placed_none p);
      marks = marks_first p (length q.tensors) c.in_ok-marks.marks.items c.new-order.result.items (sym long) c.in_ok-marks.ensures c.new-order.ensures.items;
      long = ap length c.in_ok-marks.ensures ∙ length-listed _ _;
    }

pub returns-in_default : goal.returns-in_default
returns-in_default c =
    let q = c.parts-parts.result.now in
    let p = plain q in
    let inv = c.loop-step.invariant in
    let long : length p.tensors ≡ length q.tensors = length-map q.tensors plain_tensor in
    let marks : (x : ℕ) → slice_index_or c.deref.result.now x false ≡ is_there p c.loop-step.order.items x = λ x. ap (λ xs. slice_index_or xs x false) c.deref.ensures.value ∙ inv.marks x in
    let none : first_below (is_next p c.loop-step.order.items) (length p.tensors) ≡ None = sym (marked_next p c.loop-step.order.items c.deref.result.now (length q.tensors) (sym long) marks) ∙ sym c.next_tensor.ensures ∙ c.in_default.is in
    inv.order
    ∙ sym (placed_all p c.loop-step.step (length p.tensors) (sym (ap (λ xs. first_below (is_next p xs) (length p.tensors)) inv.order) ∙ none) (omega arith))
    ∙ ap (λ (r : Parts). placing_order (plain r)) c.parts-parts.ensures.value

pub index_mut-requires : goal.index_mut-requires
index_mut-requires c =
    let q = c.parts-parts.result.now in
    let p = plain q in
    let inv = c.loop-step.invariant in
    let long : length p.tensors ≡ length q.tensors = length-map q.tensors plain_tensor in
    let marks : (x : ℕ) → slice_index_or c.deref.result.now x false ≡ is_there p c.loop-step.order.items x = λ x. ap (λ xs. slice_index_or xs x false) c.deref.ensures.value ∙ inv.marks x in
    let found = found_below (is_next p c.loop-step.order.items) (length p.tensors) c.in-Some.tensor (sym (marked_next p c.loop-step.order.items c.deref.result.now (length q.tensors) (sym long) marks) ∙ sym c.next_tensor.ensures ∙ c.in-Some.is) in
    let within : c.in-Some.tensor < length c.loop-step.marks.items = omega (arith, found.1, long, inv.long) in
    omega (arith, within, c.deref.ensures.len, ap length c.deref.ensures.value)

pub loop-step-preserved : goal.loop-step-preserved
loop-step-preserved c =
    let q = c.parts-parts.result.now in
    let p = plain q in
    let inv = c.loop-step.invariant in
    let long : length p.tensors ≡ length q.tensors = length-map q.tensors plain_tensor in
    let marks : (x : ℕ) → slice_index_or c.deref.result.now x false ≡ is_there p c.loop-step.order.items x = λ x. ap (λ xs. slice_index_or xs x false) c.deref.ensures.value ∙ inv.marks x in
    let next : first_below (is_next p c.loop-step.order.items) (length p.tensors) ≡ Some c.in-Some.tensor = sym (marked_next p c.loop-step.order.items c.deref.result.now (length q.tensors) (sym long) marks) ∙ sym c.next_tensor.ensures ∙ c.in-Some.is in
    let within : c.in-Some.tensor < length c.loop-step.marks.items = omega (arith, (found_below (is_next p c.loop-step.order.items) (length p.tensors) c.in-Some.tensor next).1, long, inv.long) in
    let pushed : c.push.new.self.items ≡ c.loop-step.order.items ++ c.in-Some.tensor ∷ [] = c.in_ok-push.ensures.items in
    record {
      order = pushed ∙ step_order p c.loop-step.step c.in-Some.tensor c.loop-step.order.items inv.order (sym next);
      marks = λ x. step_marks p c.in-Some.tensor c.loop-step.order.items c.loop-step.marks.items inv.marks within x ∙ ap (λ xs. is_there p xs x) (sym pushed);
      long = length-set c.loop-step.marks.items c.in-Some.tensor true ∙ inv.long;
    }

pub returns : goal.returns
returns c =
    let q = c.parts-parts.result.now in
    let p = plain q in
    let long : length p.tensors ≡ length q.tensors = length-map q.tensors plain_tensor in
    let end : c.loop-step.step ≡ length p.tensors = omega arith in
    c.loop-step.invariant.order ∙ ap (placed_in p) end ∙ ap (λ (r : Parts). placing_order (plain r)) c.parts-parts.ensures.value
